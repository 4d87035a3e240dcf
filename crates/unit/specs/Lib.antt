-- One TS11-compatible unit: its core, what is asked of it, and what a step does and touches.
pub mod Cores
pub mod Asks
pub mod Touching
pub mod Steps
pub mod Stores
pub mod Registers
pub mod Mounts
