-- What the lines of a script do.
pub mod Spans
pub mod Examples
