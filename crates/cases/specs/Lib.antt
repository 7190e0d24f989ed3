-- What the cases compute with.
pub mod Journal
pub mod Ledger
