-- What the parts of reading a file mean.
pub mod Parts
pub mod Walking
pub mod Folding
pub mod InHand
