pub mod ShortReads
pub mod Places
pub mod Examples
