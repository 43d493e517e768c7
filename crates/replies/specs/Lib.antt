-- The definitions of `replies`: the first reply that applies, an answer by its number, the refusals, one result.
pub mod Replies
pub mod Answers
pub mod Refusals
pub mod Unique
