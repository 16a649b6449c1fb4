pub mod Schedule
pub mod Compress
pub mod Stage
