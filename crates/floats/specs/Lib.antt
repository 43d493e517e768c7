-- The definitions of `floats`: whole numbers over a denominator, bounds, bytes, cells.
pub mod Over
pub mod Bounds
pub mod Whole
pub mod Bytes
pub mod Cells
