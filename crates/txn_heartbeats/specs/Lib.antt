pub mod Beating
pub mod Hearts
pub mod Standing
pub mod Started
pub mod Steps
