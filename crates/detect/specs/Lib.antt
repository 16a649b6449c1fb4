pub mod Detect
