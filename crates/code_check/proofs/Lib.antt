-- The sweep and its marks.
pub mod Starts
