pub mod Blocks
pub mod Given
