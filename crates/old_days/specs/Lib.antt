-- What is said of days with labels over six principals.
pub mod Contents
