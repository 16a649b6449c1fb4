pub mod Selection
pub mod Places
