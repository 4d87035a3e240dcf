-- A unit's record and what the units share, as numbers of four bytes.
pub mod Records
pub mod Shares
