-- Laws of the face.
pub mod Writes
