-- Tests, searches, sums and orders of lists and of the numbers below a bound.
pub mod Tests
pub mod Searches
pub mod Digits
pub mod Sums
pub mod Orders
