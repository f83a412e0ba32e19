pub mod WritingBack
pub mod Walks
pub mod Accessing
pub mod Moving
pub mod Advancing
pub mod Sweeping
pub mod Costs
