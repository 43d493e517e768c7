-- The laws of `diffusion`.
pub mod Sum
pub mod Channels
pub mod Landings
pub mod Weights
pub mod Received
pub mod Scatter
pub mod Steps
pub mod Unique
pub mod Loss
pub mod Account
pub mod Rounding
pub mod Spots
pub mod Machine
pub mod Targets
