pub mod Fips
pub mod Tail
