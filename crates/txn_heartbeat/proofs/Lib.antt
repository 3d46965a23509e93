pub mod Own
pub mod Beating
