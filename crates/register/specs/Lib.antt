-- The ledger that a register holds, what a call leaves and says, and the tests of a filing by places.
pub mod View
pub mod Written
pub mod Told
pub mod Judging
