-- What is true of the pieces of a written object.
pub mod Objects
pub mod Terms
pub mod StepObjects
pub mod WholeObjects
pub mod Answers
