pub mod Leading
pub mod Drawing
pub mod Joining
pub mod Narrow
pub mod Keeping
