-- The definition of the view, and of reading a file for a label. Read in this order. Writing has the terms in which the
-- contracts of the code speak of the reader and the run.
pub mod Layout
pub mod Reading
pub mod Writing
