-- Demand 3 over a day, and what it rests on.
pub mod JobEnd
pub mod Turns
pub mod Sections
pub mod Demand3
pub mod Example
pub mod Accepted
pub mod Fault33
pub mod OneJob
