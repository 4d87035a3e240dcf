-- Laws of the unit's face: what a plan touches, that every step keeps to it, what a step stored, and what a mount that is done has shown.
pub mod Outside
pub mod Storing
pub mod Rows
pub mod Touches
pub mod Stepping
pub mod Stored
pub mod Accepted
