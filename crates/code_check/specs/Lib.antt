-- Check 7: its definition, and how the code marks the starts.
pub mod Sweep
pub mod Marks
