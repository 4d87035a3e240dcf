-- The laws of what is put into memory, reel and table.
pub mod Built
pub mod Fronts
