-- The definitions of `color`: the colour kinds, the crossing from reduced to normalised colours, and Oklab distances.
pub mod Color
pub mod Tables
pub mod Oklab
