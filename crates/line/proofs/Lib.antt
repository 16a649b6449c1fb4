pub mod Lines
pub mod Digits
pub mod Reading
pub mod Passed
