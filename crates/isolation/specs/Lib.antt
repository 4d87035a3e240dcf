-- What an advance reads from memory, what a step touches there, and steps from cores that differ in memory alone.
pub mod Reads
pub mod Alike
pub mod Runs
