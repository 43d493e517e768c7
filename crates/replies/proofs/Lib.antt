-- The laws of `replies`.
pub mod ReplyLaws
pub mod LowestLaws
pub mod AnswerLaws
pub mod RefusalLaws
pub mod UniqueLaws
