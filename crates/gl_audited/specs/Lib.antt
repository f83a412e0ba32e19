pub mod Cut
pub mod Meaning
