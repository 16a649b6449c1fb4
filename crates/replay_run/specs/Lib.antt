pub mod Agreed
pub mod Counts
pub mod Turns
