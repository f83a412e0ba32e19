pub mod Truths
pub mod Marks
pub mod CommitParts
pub mod Unions
pub mod Places
pub mod Bridge
pub mod Growth
pub mod Steps
