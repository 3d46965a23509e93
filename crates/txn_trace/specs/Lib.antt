pub mod Answering
pub mod Drawing
pub mod Posting
pub mod Seeing
