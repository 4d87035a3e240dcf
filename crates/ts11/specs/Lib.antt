-- The exported calls: the journal's, over a state of 128 bytes.
pub mod Given
pub mod Finds
