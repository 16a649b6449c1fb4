pub mod Chains
pub mod Passed
pub mod Small
pub mod Numbers
pub mod First
