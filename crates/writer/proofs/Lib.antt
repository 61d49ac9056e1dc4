-- What is true of the pieces of a written file.
pub mod Placed
pub mod StepTexts
pub mod StepLines
pub mod Pieces
pub mod Answers
