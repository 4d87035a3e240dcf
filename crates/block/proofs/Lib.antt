-- Laws about one block: what its words, its padding and its check say when read, and what its stores come to when laid.
pub mod Heads
pub mod Longs
pub mod Padding
pub mod Checked
pub mod Bodies
pub mod Classes
pub mod Laid
