pub mod Pigeons
pub mod UsesMade
pub mod Gathered
pub mod ListedLaw
pub mod EventPlaces
pub mod First
