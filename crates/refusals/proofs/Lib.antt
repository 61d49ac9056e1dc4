-- What is true of refusals and of lists of tests.
pub mod Tests
pub mod Tables
