pub mod Deciding
pub mod Failing
pub mod Plans
pub mod Resolving
pub mod Settling
pub mod Tries
