pub mod Absorb
pub mod Ready
