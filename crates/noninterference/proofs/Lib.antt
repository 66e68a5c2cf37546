-- Demand 3, and what it rests on.
pub mod Starts
pub mod Sections
pub mod Demand3
pub mod Example
pub mod Accepted
