pub mod Given
pub mod Row
