pub mod Folds
pub mod MarkRight
pub mod Folded
pub mod Plain
