pub mod Counted
pub mod Held
pub mod Kept
pub mod Rows
pub mod RowsFollow
