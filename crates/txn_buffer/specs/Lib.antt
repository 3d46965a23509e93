pub mod Contents
pub mod Overlay
pub mod Passing
pub mod Reads
pub mod Writes
