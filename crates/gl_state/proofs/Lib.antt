pub mod Entering
pub mod Starting
pub mod Steps
pub mod Counts
