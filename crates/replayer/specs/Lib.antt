-- What a line asks of the journal, what its call comes to, tells and leaves, and what any line comes to.
pub mod Asks
pub mod Calls
pub mod Tells
pub mod Journals
pub mod Hands
pub mod Keeps
pub mod Turns
