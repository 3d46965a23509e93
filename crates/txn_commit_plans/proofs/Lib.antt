pub mod Answering
pub mod Beating
pub mod Frugal
pub mod Making
pub mod Pieces
pub mod Placing
pub mod Planning
