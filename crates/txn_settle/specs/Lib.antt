pub mod Expiry
pub mod Known
pub mod Requests
pub mod Search
