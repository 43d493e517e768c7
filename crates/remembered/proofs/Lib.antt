-- The laws of `remembered`.
pub mod TableLaws
pub mod ShortLaws
