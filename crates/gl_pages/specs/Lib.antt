pub mod Answers
pub mod Explained
pub mod LawfulRun
pub mod Texts
