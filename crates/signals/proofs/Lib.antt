-- The laws of the words and bytes of a message, and of the commands' codes.
pub mod Coded
pub mod Messages
