pub mod Arguments
pub mod Asking
pub mod Lists
pub mod Readiness
pub mod Throwing
pub mod Work
