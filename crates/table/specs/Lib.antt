-- The one table of worked examples.
pub mod Table
