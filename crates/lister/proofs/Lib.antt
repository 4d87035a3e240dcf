-- The laws of the listing: its numbers, how long it is, what is put for each line, and what its definition means; and what was read of an image.
pub mod Short
pub mod Putting
pub mod Meaning
pub mod Reading
