-- The ledger of document 01, the reading of a list of calls and answers, and demand 3 of the two.
pub mod Statuses
pub mod Call
pub mod Ledger
pub mod Filing
pub mod Calls
pub mod Asking
pub mod Reading
pub mod Whole
pub mod Once
