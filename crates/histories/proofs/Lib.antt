-- Laws of a shared history.
pub mod Taking
pub mod Refusing
pub mod Keeping
pub mod Undone
pub mod Naming
pub mod Rows
pub mod Checked
pub mod Blockless
pub mod Backs
pub mod Calls
pub mod Lengths
pub mod Room
pub mod Others
pub mod Advances
pub mod Mounting
pub mod Whole
