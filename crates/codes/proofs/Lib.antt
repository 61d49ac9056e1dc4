-- What is true of the check character.
pub mod Weighing
pub mod Checks
pub mod CodeExamples
