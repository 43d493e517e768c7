-- The definitions of `remembered`: a table of answers remembered by colour, rows of shortlists, and what the lent lists say.
pub mod Table
pub mod Shorts
pub mod Lent
