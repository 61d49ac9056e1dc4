-- What holds of the lines of a script.
pub mod Fronts
pub mod Names
pub mod Walks
pub mod Cutting
pub mod Printing
pub mod Blocks
pub mod Whole
pub mod Examples
pub mod AnswersFit
pub mod LinesFit
pub mod WalksExist
pub mod RunsExist
pub mod Witness
