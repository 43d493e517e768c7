-- The laws of `dither`.
pub mod Unique
pub mod PixelLaws
pub mod BudgetLaws
pub mod AnswerLaws
pub mod NumberLaws
pub mod CandidateLaws
pub mod DrawnLaws
mod CallLaws
