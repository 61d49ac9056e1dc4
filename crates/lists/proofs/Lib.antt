-- What is true of tests, searches, places and sums.
pub mod Tests
pub mod Below
pub mod ByteSearch
pub mod Searches
pub mod Digits
pub mod Parts
pub mod All
pub mod Sums
pub mod Places
pub mod Orders
