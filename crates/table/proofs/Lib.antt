pub mod Bits
pub mod Rule
pub mod Record
pub mod Chunks
pub mod Repeats
pub mod Faults
pub mod Good
pub mod Lines
