-- The commands that move the tape.
pub mod Parts
pub mod Reads
pub mod Spaces
pub mod Writes
