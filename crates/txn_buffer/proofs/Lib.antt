pub mod Ordered
pub mod Passing
pub mod Scans
pub mod Steps
pub mod Undo
pub mod Untouched
