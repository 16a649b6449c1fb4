pub mod Ended
pub mod Turns
pub mod Marks
pub mod Counted
