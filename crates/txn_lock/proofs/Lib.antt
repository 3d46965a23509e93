pub mod Cleaning
pub mod Deciding
pub mod Keeping
pub mod Placing
pub mod Removing
pub mod Resulting
pub mod Trying
