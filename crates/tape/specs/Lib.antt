-- What a reel is, apart from any code. Each file renders a sentence or two of document 01.
pub mod Numbers
pub mod Layout
pub mod Objects
pub mod Reading
pub mod Wrong
pub mod Letters
pub mod Damage
pub mod Pass
pub mod Sweep
pub mod Bytes
pub mod Afresh
pub mod Listing
pub mod Meeting
