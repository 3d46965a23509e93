pub mod Applied
pub mod Unlocked
