-- The definitions of `examples`: the worked examples of document 01 that are proved, in one table.
pub mod Table
