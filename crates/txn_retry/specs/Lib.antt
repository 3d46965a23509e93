pub mod Outcome
pub mod Place
pub mod Remedy
pub mod Walk
