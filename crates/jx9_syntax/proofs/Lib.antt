pub mod Runs
pub mod SignLemmas
pub mod InsideLemmas
pub mod FrontLemmas
pub mod OneAnswer
pub mod GrammarRows
pub mod PartLaws
