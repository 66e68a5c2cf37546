-- The definition of admission. Read in this order.
pub mod Admission
pub mod Sentence
pub mod Callers
pub mod Allowances
