-- The check character of an EIC code.
pub mod Codes
