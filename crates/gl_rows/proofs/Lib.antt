pub mod Windows
pub mod Noting
pub mod Accessed
pub mod Moved
pub mod Lifting
pub mod Swept
pub mod Costs
