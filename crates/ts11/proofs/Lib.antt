-- Laws of the state's block, and the ways out of an exported call.
pub mod Ways
