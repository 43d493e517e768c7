-- The definitions of `account`: the colour account at the buffers that an accepted call leaves.
pub mod Accounted
