-- The theorems: `OldFiles` has those to read.
pub mod Tables
pub mod Order
pub mod Entries
pub mod Labels
pub mod Views
pub mod OldFiles
