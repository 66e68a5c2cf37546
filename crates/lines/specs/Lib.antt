-- The definition of the printed lines.
pub mod Lines
