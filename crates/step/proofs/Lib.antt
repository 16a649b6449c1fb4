pub mod Inverse
pub mod Runs
pub mod Same
