-- What a line of the script asks, and the line that answers it.
pub mod Numbers
pub mod Lines
pub mod Answers
pub mod Fields
pub mod Spans
pub mod Walking
