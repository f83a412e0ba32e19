pub mod Ordering
pub mod Asking
pub mod Facts
pub mod Keeping
pub mod Surely
