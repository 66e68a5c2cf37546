-- The definitions that the contracts of `labels` cite.
pub mod Tables
pub mod Order
pub mod Cases
