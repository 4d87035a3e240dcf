-- What is printed of a session and of a call.
pub mod Fields
pub mod Lines
pub mod Complaints
