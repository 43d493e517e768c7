-- The definitions of `candidates`: the list of a picture's colours, what the rooms and the call promise, and what is done part of the way.
pub mod Kept
pub mod Candidates
pub mod Marks
pub mod Numbers
pub mod Sources
pub mod Passes
pub mod Rooms
pub mod Steps
pub mod Calls
