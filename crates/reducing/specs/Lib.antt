-- The definitions of `reducing`: the luma of a colour, the luma of each grey, and how a colour reduces.
pub mod Luma
pub mod Greys
pub mod Reduce
