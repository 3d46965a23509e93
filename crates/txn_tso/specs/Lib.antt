pub mod Calling
pub mod Counting
pub mod Heeding
pub mod Longer
pub mod Oracle
pub mod Placement
pub mod Steps
