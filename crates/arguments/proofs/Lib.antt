pub mod Settings
pub mod Signs
