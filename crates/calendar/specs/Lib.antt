-- What days, dates, steps, labels and the clock are (document 01, "Days and steps").
pub mod Dates
pub mod Texts
pub mod Steps
pub mod Labels
pub mod Clocks
