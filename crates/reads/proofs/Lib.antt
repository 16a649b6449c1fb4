pub mod Filling
pub mod Answered
