-- What an advance keeps: a well formed reel and a position that is a bound of it.
pub mod Standing
pub mod Overlaid
pub mod Reading
pub mod Spacing
pub mod Writing
pub mod Carrying
pub mod Lengths
pub mod Advanced
pub mod Laying
pub mod Unwriting
pub mod Unwritten
pub mod Leaving
pub mod NoRoom
pub mod Telling
