-- Motion over objects.
pub mod Seeking
pub mod Counting
pub mod Spacing
pub mod Between
pub mod Finding
