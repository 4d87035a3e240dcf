-- One reel, units of different record limits and EOT margins.
pub mod Finding
pub mod Moving
pub mod Carrying
pub mod Telling
pub mod Shown
pub mod Reading
pub mod Storing
pub mod Mounting
pub mod Range
pub mod Raised
