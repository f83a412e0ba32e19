pub mod Steps
pub mod Races
pub mod Performed
pub mod Lines
pub mod Follows
