-- Laws of the calls' code: what each way out of a function leaves is what the definitions say.
pub mod Outs
pub mod Entered
pub mod Called
pub mod Changing
pub mod Readies
pub mod Backs
pub mod Mounting
pub mod Sharing
