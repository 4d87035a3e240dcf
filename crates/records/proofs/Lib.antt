-- A transport and its record are one another's, and so are what is shared and its numbers.
pub mod Keeping
pub mod Sharing
