-- The definitions of `exports`: what each C function answers, and leaves behind its pointers and in its buffers.
pub mod Answers
pub mod Lookups
pub mod Pictures
pub mod Files
