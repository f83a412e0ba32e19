mod BlockRows
pub mod Blocks
mod Cells
pub mod Faulting
pub mod Gathering
pub mod Kept
mod Lasting
mod Numbered
pub mod Orders
pub mod Parts
pub mod Racing
mod Walked
