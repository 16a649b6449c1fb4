pub mod Choice
pub mod Word
pub mod Rule
pub mod Lists
