pub mod CutLines
pub mod Meanings
