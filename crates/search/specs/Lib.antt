pub mod Search
pub mod Ended
pub mod Marks
