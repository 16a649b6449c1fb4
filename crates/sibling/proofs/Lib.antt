pub mod Back
pub mod Linear
