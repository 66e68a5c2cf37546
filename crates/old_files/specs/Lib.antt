-- What is said of files with labels over six principals.
pub mod Repeating
pub mod Contents
