-- What the contracts of the printed lines' writers cite.
pub mod Room
pub mod Lines
