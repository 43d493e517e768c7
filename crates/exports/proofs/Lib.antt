-- The laws of `exports`.
pub mod Unique
pub mod AnswerLaws
pub mod LookupLaws
pub mod PictureLaws
pub mod FileLaws
