pub mod Walked
pub mod RowTests
