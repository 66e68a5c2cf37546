-- What demand 3 speaks of: files that are alike for a reading label, and reads that are the same.
pub mod Alike
