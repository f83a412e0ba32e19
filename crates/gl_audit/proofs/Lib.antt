pub mod Seven
pub mod Composing
pub mod OneFinding
pub mod Apart
pub mod Begins
