pub mod Dispatching
pub mod Extracting
pub mod Merging
pub mod Preserving
pub mod Processing
pub mod LookingUp
pub mod LastPosted
pub mod Timing
