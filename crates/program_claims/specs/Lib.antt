pub mod Ends
pub mod Grounds
pub mod Sixteen
