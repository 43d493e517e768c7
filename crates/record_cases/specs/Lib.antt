-- The definitions of `record_cases`.
pub mod Asked
