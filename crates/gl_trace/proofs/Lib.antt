pub mod IdsLemmas
pub mod TraceLemmas
pub mod TracerLemmas
pub mod QuickLemmas
pub mod WholeTraces
pub mod QuickLists
pub mod Unions
