pub mod Licensing
pub mod Losses
pub mod Noting
pub mod Searching
