-- The commands carried out, and how an end is told.
pub mod Answers
pub mod Ends
pub mod Commands
