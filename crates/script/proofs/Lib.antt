-- What holds of the lines.
pub mod Examples
pub mod Parting
pub mod Numerals
pub mod Spelling
pub mod Powers
pub mod FieldEnds
pub mod LineKinds
pub mod FileLines
pub mod EngagementLines
pub mod LoadLines
pub mod Letters
pub mod LineFields
pub mod ReadAgain
pub mod Decimals
pub mod AnswerLines
pub mod ReadBack
