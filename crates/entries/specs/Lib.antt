-- A journal entry: its head with the whole state and the places touched, its bytes, and the used part of a journal.
pub mod Numbers
pub mod Bytes
pub mod Entries
