-- What the listing prints.
pub mod Lines
pub mod Listed
