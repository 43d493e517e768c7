-- The laws of `float_cells`.
mod Arithmetic
mod Sends
pub mod Scan
pub mod Drawn
mod Shared
pub mod Quantize
pub mod Dither
