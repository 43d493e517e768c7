-- The laws of `reducing`.
pub mod CutLaws
pub mod LumaLaws
pub mod LumaValues
pub mod MonotoneLaws
pub mod ReduceLaws
