pub mod Calls
pub mod Acting
pub mod Answers
pub mod Settling
pub mod Costs
