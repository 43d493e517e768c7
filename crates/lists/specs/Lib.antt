-- The definitions of `lists`: buffers of pieces, the first that, the first of the least, members and order, different values, a place made.
pub mod Gather
pub mod First
pub mod Least
pub mod Order
pub mod Different
pub mod Slide
