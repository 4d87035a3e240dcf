-- The theorems of the exported calls.
pub mod Fits
pub mod Goes
pub mod Names
pub mod Runs
pub mod Backs
pub mod Undone
pub mod Refused
pub mod Rounds
pub mod Unique
pub mod Hosts
pub mod Stands
pub mod Mounted
pub mod Always
pub mod Founds
pub mod Advances
