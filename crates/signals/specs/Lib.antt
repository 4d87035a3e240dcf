-- The bits, words and codes of document 01 ("Registers", "Commands", the message paragraph).
pub mod Bits
pub mod Numbers
pub mod Codes
pub mod Header
pub mod Residuals
pub mod Message
