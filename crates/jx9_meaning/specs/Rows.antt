-- Worked scripts.
pub mod Scalars
pub mod Orders
pub mod Places
pub mod Loops
pub mod Calls
pub mod Units
pub mod Endings
