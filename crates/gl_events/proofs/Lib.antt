pub mod Lives
pub mod Beginnings
pub mod Acts
pub mod Answering
pub mod Publishing
pub mod GoingOn
mod HoldsLoaded
pub mod ExitCodes
