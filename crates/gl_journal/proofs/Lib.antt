pub mod BackEntries
pub mod BackLists
pub mod BackRecord
pub mod PartLists
pub mod Reading
pub mod WrittenLines
pub mod WrittenLists
pub mod WrittenNumbers
