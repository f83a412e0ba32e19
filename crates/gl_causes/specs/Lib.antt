pub mod Causes
pub mod Finding
pub mod Handing
pub mod Judging
pub mod Leading
pub mod Learning
pub mod Owned
pub mod Stands
