-- Laws of the motions: how a stop ends a space, and what is known of every motion that ended, whatever the reel holds.
pub mod Ends
pub mod Onward
pub mod Stages
pub mod Halts
pub mod Rooms
pub mod Fit
