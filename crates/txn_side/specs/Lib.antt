pub mod Account
pub mod Arising
pub mod Doubt
pub mod Saying
pub mod Sight
pub mod Steps
pub mod Trace
pub mod Waiting
