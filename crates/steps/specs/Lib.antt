-- What the functions behind the calls ask of their caller.
pub mod Readiness
