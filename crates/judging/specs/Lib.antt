-- What the sums and the checks of a filing mean.
pub mod Nets
pub mod Steps
