pub mod Beginnings
pub mod Following
pub mod Steps
pub mod Words
