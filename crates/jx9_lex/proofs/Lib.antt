pub mod Naturals
pub mod PartLemmas
pub mod Reading
pub mod LexLemmas
pub mod Ended
