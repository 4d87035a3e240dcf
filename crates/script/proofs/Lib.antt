-- The laws of words, numbers, bytes put into a slice, check sums and lines of output; what the definitions mean; worked examples.
pub mod Passing
pub mod Found
pub mod Said
pub mod Filled
pub mod Paired
pub mod Xors
pub mod Printed
pub mod Spelt
pub mod Meant
pub mod Vectors
