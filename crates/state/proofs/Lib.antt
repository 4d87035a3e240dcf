-- The laws of the state: what a state that is not refused says of itself, and that every change keeps it so.
pub mod Tests
pub mod Behind
pub mod Legal
pub mod Mounting
