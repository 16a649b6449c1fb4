pub mod Taken
pub mod Absorbed
