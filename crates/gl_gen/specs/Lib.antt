pub mod Bank
pub mod BankText
pub mod Drafts
