-- Laws that the proofs of the functions cite.
pub mod Lengths
pub mod Labels
pub mod Printed
