-- What is true of nets and of the checks by them.
pub mod Stores
pub mod Netting
pub mod Passed
pub mod Found
pub mod Verdicts
pub mod Keys
pub mod Ledger
