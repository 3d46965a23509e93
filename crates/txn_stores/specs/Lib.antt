pub mod Aimed
pub mod StoreTask
pub mod TaskLaws
pub mod Settling
pub mod Search
pub mod AllStores
pub mod AllFollows
pub mod AllLaws
