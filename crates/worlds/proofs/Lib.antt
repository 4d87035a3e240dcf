-- Laws of the calls' meaning.
pub mod Coupling
pub mod Passing
pub mod Undoing
