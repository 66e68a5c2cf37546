-- Laws that other crates and the proofs of the functions cite.
pub mod Limits
pub mod Tests
pub mod Answers
pub mod Turns
pub mod Findings
