-- What the object of a request is.
pub mod Tokens
pub mod Moments
pub mod Objects
pub mod Writing
pub mod Reading
