-- What the lines of a script say.
pub mod Gives
pub mod Makes
pub mod Starts
pub mod Arranging
pub mod Building
pub mod Tabling
pub mod Calling
pub mod Rules
pub mod Lines
