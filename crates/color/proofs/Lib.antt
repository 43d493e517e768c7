-- The laws of `color`.
pub mod Same
pub mod PieceLaws
pub mod Distances
pub mod Unique
