-- What a step touches, and the bytes that are saved of it.
pub mod Touches
