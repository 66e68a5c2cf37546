-- Inputs: what the code finds of a file's labels and input records. Words: differences of words.
pub mod Inputs
pub mod Words
