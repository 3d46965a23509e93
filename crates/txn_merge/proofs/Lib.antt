pub mod Vecs
pub mod Extracting
pub mod SecondarySeen
