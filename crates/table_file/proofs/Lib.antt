pub mod Short
pub mod Lengths
pub mod FromFn
