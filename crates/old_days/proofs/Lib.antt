-- The theorems: `OldDays` has those to read.
pub mod Jobs
pub mod Views
pub mod OldDays
