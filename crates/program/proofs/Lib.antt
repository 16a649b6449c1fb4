pub mod Intakes
pub mod Replies
