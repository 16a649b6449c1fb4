pub mod Calls
pub mod OwnMessage
pub mod Several
pub mod Promises
