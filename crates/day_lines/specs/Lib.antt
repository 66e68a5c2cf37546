-- The definition of the printed lines of a day. Room is for the contracts alone.
pub mod Lines
pub mod Room
