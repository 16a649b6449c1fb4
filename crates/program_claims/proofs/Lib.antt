pub mod Ends
pub mod Verdicts
pub mod Lines
pub mod Contents
pub mod Bad
pub mod Unread
pub mod Sixteen
