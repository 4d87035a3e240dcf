-- Case laws of the definitions that the code computes, and what a search and a space say of the reel.
pub mod Seeks
pub mod Counting
pub mod Spaces
pub mod Turns
pub mod Rounds
pub mod Within
pub mod Bounds
pub mod Steps
pub mod Finds
pub mod Counts
pub mod FoundAt
