-- Advance, in order.
pub mod Rules
pub mod Steps
