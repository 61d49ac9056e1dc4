-- What is done with the records of a register, as laws.
pub mod Turns
pub mod Puts
pub mod Changes
pub mod AllChanged
pub mod Views
pub mod Ordered
pub mod TurnNumbers
pub mod Heaps
pub mod Pairs
pub mod Linking
pub mod Inserting
pub mod InPlace
pub mod TakingUp
