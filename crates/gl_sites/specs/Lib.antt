pub mod Adding
pub mod Makers
pub mod PlainLines
pub mod Recorded
pub mod Sites
pub mod SourceLines
