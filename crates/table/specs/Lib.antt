pub mod Limits
pub mod Bits
pub mod Table
pub mod Good
