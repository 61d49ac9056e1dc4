-- What is true of the notification file.
pub mod Examples
pub mod Lines
pub mod Lengths
pub mod Powers
pub mod Scans
pub mod Breaks
pub mod Names
pub mod Steps
pub mod Places
pub mod Bodies
pub mod Tables
pub mod TwoWays
pub mod Buffers
pub mod Tested
pub mod Orders
pub mod Stored
