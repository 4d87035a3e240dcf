-- The laws of an entry: its numbers give it back, its bytes join, and what the used journal holds.
pub mod Back
pub mod Halves
pub mod HeadBytes
pub mod Own
pub mod Turns
pub mod Joined
pub mod Used
pub mod Fitting
