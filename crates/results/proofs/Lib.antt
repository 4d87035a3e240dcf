-- The laws of what is printed, and of a session as numbers.
pub mod Texts
pub mod Numbered
