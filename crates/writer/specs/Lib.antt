-- What the pieces of a written file are.
pub mod Placing
