pub mod Sheet
pub mod Exactly
