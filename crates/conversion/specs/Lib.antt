-- The definitions of `conversion`: linear values, the cube root, division to the nearest, Oklab, colours without tint, and the Oklab of a list.
pub mod Linear
pub mod Root
pub mod Nearest
pub mod Oklab
pub mod Tint
pub mod Lists
