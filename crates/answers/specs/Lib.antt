-- What an answer says.
pub mod Values
