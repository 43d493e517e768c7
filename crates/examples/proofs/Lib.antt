-- The proof of the worked examples.
pub mod Examples
