-- The laws of `lists`.
pub mod Bools
pub mod Computed
pub mod GatherLaws
pub mod FillLaws
pub mod FirstLaws
pub mod LeastLaws
pub mod OrderLaws
pub mod DifferentLaws
pub mod SlideLaws
