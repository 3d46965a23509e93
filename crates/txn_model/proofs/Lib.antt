pub mod CellLists
mod Changing
mod Filtering
pub mod Folding
pub mod KeptCells
pub mod Keys
mod Landed
pub mod Lengthening
pub mod Locking
mod Mapping
mod Opening
pub mod OrderlyCells
pub mod Orders
pub mod PlacesInOrder
mod Ruling
mod Scanning
mod Settled
mod Splitting
pub mod StepFacts
pub mod StepRows
pub mod Steps
pub mod TableFacts
pub mod Unlocking
pub mod Written
