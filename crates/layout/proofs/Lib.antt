pub mod Bits
pub mod ReadBack
