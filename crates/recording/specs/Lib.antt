-- What is done with the records of a register.
pub mod Recording
pub mod Ordering
