-- What the private parts of the crate cite. Crates above name nothing of it.
pub mod Reading
pub mod Writing
