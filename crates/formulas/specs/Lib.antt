-- Clauses, formulas and their tables, for any number of principals.
pub mod Lists
pub mod Bits
pub mod Formula
pub mod Normal
