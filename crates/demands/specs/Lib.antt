-- What the theorems of demand 2 say: which way an advance goes, what each command is, how a Read ends, what a written record gives back,
-- what a space passed, what stays.
pub mod Ways
pub mod Commands
pub mod Faults
pub mod Done
pub mod Stops
pub mod Saying
pub mod MustRead
pub mod Reading
pub mod ReadBack
pub mod Spacing
pub mod Stays
