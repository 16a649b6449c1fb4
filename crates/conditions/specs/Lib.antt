pub mod Limits
pub mod Survivors
pub mod Conditions
pub mod Good
