-- The definitions of `float_cells`: the original's f32 steps at one pixel, its scan over a picture, the picture that it draws, and both calls with it.
pub mod Arithmetic
pub mod Scan
pub mod Drawn
pub mod Calls
