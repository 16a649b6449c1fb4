pub mod ReadBack
pub mod Keeps
pub mod HasherKept
pub mod FinishKept
pub mod TableKept
pub mod Finished
pub mod FirstMarks
