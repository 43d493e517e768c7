-- The definitions of `judging`: the tiles of a picture and their colours, and colours as numbers.
pub mod Tiles
pub mod Keys
