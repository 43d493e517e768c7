-- The laws of `patterns`.
pub mod Numbers
pub mod Kernels
pub mod Thresholds
pub mod EveryRow
pub mod Unique
