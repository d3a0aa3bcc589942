pub mod Quote
pub mod Strings
pub mod Front
pub mod Grammar
pub mod Text
pub mod Answer
pub mod Laws
pub mod Internal
