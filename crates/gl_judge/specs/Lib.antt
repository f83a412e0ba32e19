pub mod Noted
pub mod Asked
pub mod Standing
pub mod Conflicting
