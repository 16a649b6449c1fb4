pub mod Reads
pub mod Files
