pub mod ListView
pub mod States
pub mod Entering
pub mod Starting
pub mod Acts
pub mod Lent
