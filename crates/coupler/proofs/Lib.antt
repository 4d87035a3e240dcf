-- Laws of the calls of no transport: a line for each way out.
pub mod Refusing
pub mod Hosting
