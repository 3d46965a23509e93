pub mod Carried
pub mod Causes
pub mod Heard
pub mod Kinds
pub mod Making
pub mod Spent
