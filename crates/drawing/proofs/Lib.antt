-- The laws of `drawing`.
pub mod DrawnLaws
pub mod PositionLaws
pub mod CandidateLaws
pub mod OutputLaws
pub mod FinishedLaws
mod PlaceLaws
pub mod TurnLaws
mod StepLaws
mod FinishLaws
