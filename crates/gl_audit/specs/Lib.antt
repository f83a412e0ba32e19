pub mod Clauses
pub mod Findings
