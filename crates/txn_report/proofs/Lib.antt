pub mod ErrorTexts
