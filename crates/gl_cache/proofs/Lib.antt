pub mod WordBits
pub mod Places
