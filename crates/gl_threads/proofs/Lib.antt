pub mod Stepping
pub mod Finishing
pub mod Boarding
pub mod Closing
pub mod Layouts
