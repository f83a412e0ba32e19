pub mod Laws
pub mod Looking
pub mod Numbering
