-- Laws of storing a plan: the ways that the code returns, lengths, what is kept.
pub mod Ways
pub mod Lengths
pub mod DataPlaces
pub mod Staying
