pub mod LawfulRuns
pub mod Pieces
pub mod Sources
pub mod Telling
