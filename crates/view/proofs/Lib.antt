-- Theorems on the definitions of specs/, and lemmas for the proofs of the functions.
pub mod Widths
pub mod Closing
pub mod Places
pub mod LengthField
pub mod SameView
