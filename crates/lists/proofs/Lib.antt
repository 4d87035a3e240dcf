-- The laws of tests, of runs of stores and how they are undone, of copies, of sums of words, of longer numbers, of places in memory, and of lists of bytes.
pub mod Cases
pub mod Stores
pub mod Copied
pub mod Sums
pub mod Fours
pub mod Placed
pub mod Swapped
pub mod Back
pub mod Bytes
