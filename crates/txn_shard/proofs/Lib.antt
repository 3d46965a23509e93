pub mod Batching
pub mod Found
pub mod Licensed
pub mod Ranged
pub mod Sorting
