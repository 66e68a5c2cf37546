-- Present: a value read from an array, within its end or past it.
pub mod Present
