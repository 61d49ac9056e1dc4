-- What the notification file is.
pub mod Forms
pub mod Writing
pub mod Reading
