pub mod Agreement
pub mod Asking
pub mod Holding
pub mod OwnRows
pub mod RowSets
pub mod RowSteps
pub mod Within
