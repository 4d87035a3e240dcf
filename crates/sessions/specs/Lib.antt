-- Sessions of calls: the model, the journal's calls in it, and what every moment of a session has.
pub mod Session
pub mod Calling
pub mod Good
pub mod Rules
pub mod Advancing
