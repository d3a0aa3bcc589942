pub mod Classes
pub mod Numbers
pub mod Cuts
pub mod Built
pub mod Answer
