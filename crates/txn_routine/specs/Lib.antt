pub mod Next
pub mod OneOf
pub mod RoutinePlan
pub mod Way
