-- The laws of `records`.
pub mod ListLaws
pub mod FirstLaws
pub mod OtherLaws
pub mod FlatLaws
pub mod AgreeLaws
pub mod AnswerLaws
pub mod TakenLaws
pub mod Unique
