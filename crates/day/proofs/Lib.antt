-- Laws that the proofs of the functions cite.
pub mod Turns
pub mod Views
pub mod Most
pub mod Answers
