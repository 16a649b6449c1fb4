pub mod Dropped
pub mod Faults
pub mod Survive
pub mod Each
