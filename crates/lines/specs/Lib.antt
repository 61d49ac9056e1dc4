-- The lines of a script and their answers; how they are walked.
pub mod Scripts
pub mod Walking
