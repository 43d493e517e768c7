-- The definitions of `dither`: what `dither_to_mode` answers and leaves, and what its steps promise.
pub mod Mode
pub mod Steps
