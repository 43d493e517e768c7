-- The laws of `mixing`.
pub mod Widths
pub mod Between
pub mod Shares
pub mod Residuals
pub mod Unique
