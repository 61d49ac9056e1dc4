-- What the tables of a register hold.
pub mod Tables
pub mod Passing
pub mod More
pub mod Lent
