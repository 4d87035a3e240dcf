-- The laws of lines, and of the bytes that they give.
pub mod Fields
pub mod Made
pub mod Ruled
pub mod Vectors
