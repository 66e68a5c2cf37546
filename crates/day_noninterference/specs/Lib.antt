-- What demand 3 speaks of, over a day: days that are alike for a reading label.
pub mod Alike
