-- The definitions of `pam`: text, lines and tokens, headers; the subset, said of the bytes alone; the calls' promises; what the reader's parts leave.
pub mod Text
pub mod Lines
pub mod Header
pub mod Subset
pub mod Pam
pub mod Reading
