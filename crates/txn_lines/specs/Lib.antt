pub mod Deeds
pub mod Grammar
pub mod Kinds
pub mod Lines
pub mod Reading
pub mod Text
