-- Laws that the proofs of the functions cite.
pub mod Tests
pub mod Labels
pub mod Arrays
pub mod Records
pub mod Refusals
