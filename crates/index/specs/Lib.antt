-- The table beside a reel: what it says of the reel's objects, where a write cuts it, and what is found in it.
pub mod Table
pub mod Heads
pub mod Halving
pub mod Cutting
pub mod Finding
