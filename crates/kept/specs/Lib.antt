-- What an advance keeps.
pub mod Formed
pub mod Leaving
pub mod NoRoom
