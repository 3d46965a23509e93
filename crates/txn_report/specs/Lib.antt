pub mod ErrorText
pub mod OutcomeView
pub mod Text
