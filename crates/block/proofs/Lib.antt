pub mod Growth
pub mod Bounds
pub mod Stages
