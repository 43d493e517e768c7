-- The definitions of `picture`: bounds of sizes and lengths, and the colours of a pixel.
pub mod Bounds
pub mod Pixels
