-- What is true of the reader's and the writer's calls.
pub mod RoundTrip
pub mod Witness
