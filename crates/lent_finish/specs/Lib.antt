pub mod LentFinish
