-- What the parts of reading an object mean.
pub mod Walking
pub mod Heads
pub mod Steps
pub mod Series
