-- What storing a plan does to memory and reel, and which bytes it leaves.
pub mod Stored
pub mod Outside
