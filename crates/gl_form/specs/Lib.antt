pub mod Come
pub mod Passed
pub mod Rules
