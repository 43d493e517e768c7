-- The definitions of `records`: lists of candidate records, and what the lookups over them answer.
pub mod Lists
pub mod Answers
