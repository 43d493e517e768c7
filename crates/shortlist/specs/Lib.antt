-- The definitions of `shortlist`: candidates, the nearest of them, and the others in order of distance.
pub mod Candidates
pub mod Nearest
pub mod Shortlist
