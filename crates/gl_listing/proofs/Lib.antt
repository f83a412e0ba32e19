pub mod Apart
pub mod DrawLists
pub mod Marking
pub mod NumberedLaw
pub mod Found
pub mod Adding
