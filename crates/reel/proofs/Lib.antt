-- Case laws of the definitions that the code computes, one for each way that it returns, and the laws of its loops.
pub mod Walks
pub mod Pieces
pub mod Meetings
pub mod Sweeps
pub mod Examined
pub mod Laid
pub mod Moved
