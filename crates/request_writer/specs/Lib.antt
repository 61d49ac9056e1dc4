-- What the pieces of a written object are.
pub mod Pieces
