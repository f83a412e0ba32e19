pub mod Text
pub mod Number
pub mod Numbered
pub mod Spans
