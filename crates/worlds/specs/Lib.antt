-- The calls by their meaning: a world, the refusals, and each call as a function of the world.
pub mod Worlds
pub mod Refusals
pub mod Calls
pub mod Passes
pub mod Rows
pub mod Coupled
