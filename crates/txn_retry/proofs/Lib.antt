pub mod Cuts
pub mod Outcomes
pub mod Queues
pub mod Standing
pub mod Taking
pub mod Walking
