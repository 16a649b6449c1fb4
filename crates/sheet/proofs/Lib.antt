pub mod First
pub mod Parts
pub mod Numbers
pub mod Exactly
pub mod Places
