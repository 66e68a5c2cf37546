-- Lemmas for the proofs of the functions.
pub mod Printing
