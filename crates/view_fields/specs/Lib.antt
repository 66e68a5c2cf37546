-- The definition of a view's fields. Writing has the terms in which the contracts of the code speak of buffers.
pub mod Fields
pub mod Writing
