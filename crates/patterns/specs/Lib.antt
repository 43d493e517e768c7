-- The definitions of `patterns`: kernels of error diffusion, threshold matrices, the kinds of dithering, thresholds.
pub mod Kernel
pub mod Matrices
pub mod Kinds
pub mod Thresholds
