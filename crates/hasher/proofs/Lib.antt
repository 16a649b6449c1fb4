pub mod Zeros
pub mod Formed
pub mod Words
