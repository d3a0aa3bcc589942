-- What the private parts of the crate cite. Crates above name nothing of it.
pub mod Codes
pub mod Kept
pub mod Falls
pub mod Writing
pub mod Reaching
pub mod NameOrder
pub mod Names
pub mod Blocks
pub mod Table
pub mod Index
pub mod Tally
pub mod Beside
pub mod Building
