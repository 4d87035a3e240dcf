-- What the plan of an end says, whether it is told or not.
pub mod Told
pub mod Every
pub mod Moving
