pub mod Defaults
pub mod Lowered
