-- The state as a block of bytes.
pub mod Block
