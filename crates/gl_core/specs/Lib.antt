pub mod Cells
pub mod Marks
pub mod Latests
pub mod TablesView
pub mod Stands
pub mod EpochLaws
pub mod Lines
pub mod Follows
