-- What a refusal is: its number, its place, and the order in which refusals are tried.
pub mod Numbers
pub mod Tests
