-- Laws of sessions.
pub mod Striking
pub mod Stood
pub mod Keeping
pub mod Indexing
pub mod Taken
pub mod Room
pub mod Calls
pub mod Lengths
pub mod Mounting
pub mod Backs
pub mod Unique
pub mod Obeying
pub mod Advances
