-- The laws of `lookup`.
pub mod SecondLaws
pub mod TwoLaws
pub mod BracketLaws
pub mod PositionLaws
pub mod ListLaws
pub mod AnswerLaws
pub mod TakenLaws
pub mod Unique
