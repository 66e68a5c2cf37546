-- The definitions that the contracts of `label_entries` cite.
pub mod Entries
