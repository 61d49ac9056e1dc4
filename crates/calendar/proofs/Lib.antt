-- What is true of the definitions.
pub mod Counting
pub mod Decoding
pub mod Numbering
pub mod Reading
pub mod TwoWays
pub mod Weekdays
pub mod Changes
pub mod StepCounts
pub mod AnyDay
pub mod Clocks
pub mod Examples
