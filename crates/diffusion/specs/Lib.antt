-- The definitions of `diffusion`: biased bytes, the diffusion of a picture, its buffer of cells, what the calls promise, the colour account.
pub mod Biased
pub mod Sum
pub mod Diffusion
pub mod Scatter
pub mod Sends
pub mod Account
