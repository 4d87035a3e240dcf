-- What the text of a session script says: words, numbers, bytes put into a slice, check sums, and a line of output.
pub mod Words
pub mod Rules
pub mod Numbers
pub mod Fills
pub mod Sums
pub mod Prints
pub mod Spelling
