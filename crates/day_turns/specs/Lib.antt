-- The terms in which the contracts of the code speak of a day that was run once.
pub mod Keeping
