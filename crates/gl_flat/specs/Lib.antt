pub mod Words
pub mod Walk
pub mod Below
pub mod Sorted
