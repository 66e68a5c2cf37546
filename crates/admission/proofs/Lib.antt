-- The theorems about admission, and lemmas for the functions that admit jobs.
pub mod After
pub mod Sentence
pub mod Callers
pub mod Allowances
