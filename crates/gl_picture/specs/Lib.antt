pub mod Arrows
pub mod Order
pub mod Drawn
pub mod Shapes
pub mod Texts
pub mod Answers
