-- The laws of `candidates`.
pub mod MarkLaws
pub mod KeptLaws
pub mod CandidateLaws
pub mod CollectLaws
pub mod RoomLaws
pub mod CallLaws
