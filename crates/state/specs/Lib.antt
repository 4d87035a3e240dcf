-- The unit's state: what register writes and operator acts make of it, which states are refused, how the registers read.
pub mod Changes
pub mod Checks
pub mod Legal
pub mod Refusals
pub mod Readings
