-- The laws of `floats`.
pub mod Int
pub mod At
pub mod Over
pub mod Within
pub mod Unique
pub mod Order
pub mod Range
pub mod Monotone
pub mod Whole
pub mod Dot
pub mod Bytes
pub mod Sixteenths
pub mod Cells
