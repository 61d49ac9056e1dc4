-- Answers as flat records, for programs in C and Rust.
pub mod Faces
