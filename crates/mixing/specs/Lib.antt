-- The definitions of `mixing`: shares of a mix, the error of a mix, the width of a bracket.
pub mod Lerp
pub mod Widths
