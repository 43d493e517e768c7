-- The laws of `judging`.
pub mod KeyLaws
pub mod TileLaws
pub mod ScanLaws
pub mod JudgedLaws
