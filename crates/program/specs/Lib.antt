pub mod Intakes
pub mod Reply
