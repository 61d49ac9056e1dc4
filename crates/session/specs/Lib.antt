-- What a line of the script does.
pub mod Lines
pub mod Stores
