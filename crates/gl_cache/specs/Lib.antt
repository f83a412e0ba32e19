pub mod Words
pub mod Bits
pub mod Slots
pub mod CacheInside
