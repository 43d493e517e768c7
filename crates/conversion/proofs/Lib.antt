-- The laws of `conversion`.
pub mod LinearLaws
pub mod RootLaws
pub mod NearestLaws
pub mod OklabLaws
pub mod TintLaws
pub mod ListLaws
pub mod Bits
pub mod Unique
