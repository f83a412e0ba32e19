pub mod Accesses
pub mod Earlier
pub mod Gathers
pub mod Judged
pub mod Lasts
pub mod RaceFaults
pub mod Rows
pub mod Sorted
