pub mod Settled
pub mod Tasking
pub mod Waking
pub mod Running
pub mod Searching
pub mod AllRunning
pub mod AllSearching
pub mod AllCalls
