pub mod Padded
pub mod Fed
