pub mod LentHasher
