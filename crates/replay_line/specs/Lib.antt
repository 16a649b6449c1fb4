pub mod Fields
pub mod Hex
pub mod Kinds
