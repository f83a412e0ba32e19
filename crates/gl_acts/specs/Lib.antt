pub mod Acting
pub mod ActLaws
pub mod Applying
pub mod Refusing
pub mod Making
