-- The laws of the table beside a reel: of halving, of places, of what a write leaves, and of look-ups.
pub mod Halves
pub mod Counted
pub mod Tables
pub mod Stood
pub mod Cuts
pub mod Founds
