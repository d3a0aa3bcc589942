pub mod Causes
pub mod Written
pub mod WrittenLaws
