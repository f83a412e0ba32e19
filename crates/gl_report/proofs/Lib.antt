pub mod ByThread
pub mod Firsts
pub mod Reporting
pub mod Summing
