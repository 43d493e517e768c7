-- The laws of `quantize`.
pub mod Unique
pub mod PixelLaws
pub mod IndexLaws
pub mod FittingLaws
pub mod DrawnLaws
