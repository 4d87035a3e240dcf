-- What word 0 names, how the code takes the check's sum, and the two halves of a block that it looks at.
pub mod Kinds
pub mod Sums
pub mod Halves
