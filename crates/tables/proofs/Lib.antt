-- What is true of the tables.
pub mod Entries
pub mod Texts
pub mod Placed
pub mod Down
pub mod Fours
pub mod Listing
pub mod LoadTable
pub mod RecordTable
pub mod Keys
