-- Laws of the state's block.
pub mod Written
pub mod Blocks
