-- The desk, and what the lines of a script do to it and to the buffers.
pub mod Desks
pub mod Turns
pub mod Arranges
pub mod Builds
pub mod Tables
