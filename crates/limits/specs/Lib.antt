-- Units of different record limits and EOT margins.
pub mod Before
pub mod Alike
pub mod Raised
