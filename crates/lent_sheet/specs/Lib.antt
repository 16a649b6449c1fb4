pub mod LentSheet
