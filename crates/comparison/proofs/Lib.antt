pub mod Answers
pub mod Exactly
