pub mod Varint
pub mod Stored
pub mod Answer
pub mod Laws
pub mod Internal
