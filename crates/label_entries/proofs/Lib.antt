-- Theorems on the definitions of specs/, and lemmas for the proofs of the functions.
pub mod Words
pub mod Masks
pub mod Reading
pub mod MaximalFalse
pub mod Listing
pub mod Writing
pub mod RoundTrip
