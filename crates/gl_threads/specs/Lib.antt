pub mod Options
pub mod Aboard
pub mod Crews
pub mod Dealing
pub mod InRun
