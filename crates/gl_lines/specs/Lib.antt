pub mod TraceStates
pub mod Traced
pub mod TraceLaws
pub mod TraceRows
pub mod TraceRecords
