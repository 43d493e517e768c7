-- The definitions of `quantize`: what `quantize_pixels` answers and leaves, and what its steps promise.
pub mod Quantize
pub mod Steps
