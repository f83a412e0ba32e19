pub mod ByThread
pub mod Firsts
pub mod Lines
pub mod Summary
