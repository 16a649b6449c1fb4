pub mod Same
pub mod Stored
pub mod Zeros
