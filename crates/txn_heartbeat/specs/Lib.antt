pub mod Beats
pub mod Hosting
