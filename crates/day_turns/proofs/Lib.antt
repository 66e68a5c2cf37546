-- Lemmas for the proofs of the functions.
pub mod Lists
pub mod Keeping
