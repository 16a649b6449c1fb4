-- the theorems, a file for each group
pub mod Refused
pub mod Others
pub mod Independence
pub mod Order
pub mod OwnMessage
pub mod Demands
pub mod Conditions
pub mod Short
pub mod Anywhere
pub mod Several
pub mod EveryCall
pub mod First
pub mod Kept
pub mod Every
pub mod Settled
pub mod Handed
-- the laws that they lean on
pub mod Lanes
