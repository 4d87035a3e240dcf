-- The laws of advance.
pub mod Extents
pub mod Idle
pub mod Walk
pub mod Sound
pub mod Carrying
pub mod Planned
