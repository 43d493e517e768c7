-- The definitions of `lookup`: the second, the bracket and what is picked of it, which entry is taken, and the answers of the flat calls.
pub mod Second
pub mod Bracket
pub mod Positions
pub mod Lists
pub mod Answers
