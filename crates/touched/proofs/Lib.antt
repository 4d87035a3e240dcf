-- Laws of what is saved and put back.
pub mod Empty
pub mod Parts
pub mod PutBack
pub mod Joins
pub mod Fits
