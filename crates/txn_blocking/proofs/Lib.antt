pub mod Asking
pub mod Ending
pub mod Timestamps
pub mod Writing
