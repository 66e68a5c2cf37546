-- Lemmas for the proofs of the functions, here and in the crates above.
pub mod Buffers
pub mod Digits
pub mod Tables
pub mod Widths
