pub mod Order
pub mod Monitors
pub mod Sharing
pub mod Filtered
