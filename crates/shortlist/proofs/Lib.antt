-- The laws of `shortlist`.
pub mod NearestLaws
mod LeaderLaws
pub mod MapLaws
pub mod PlaceLaws
mod InsertLaws
pub mod RankedLaws
pub mod ArrayLaws
pub mod ShortlistLaws
