pub mod BankIsRight
pub mod BankIsText
pub mod BankReads
pub mod Ranges
pub mod RightCode
pub mod SomeLines
