-- What the layers above share: a choice, words and longer numbers in bytes, and the places that bytes go to.
pub mod Pick
pub mod Words
pub mod Fours
pub mod Places
