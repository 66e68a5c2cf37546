-- Decisions: what the code makes of labels and records.
pub mod Decisions
