pub mod Steps
pub mod Runs
pub mod Applied
pub mod Ending
pub mod Firsts
pub mod Walking
pub mod Keeping
