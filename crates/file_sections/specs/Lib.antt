-- The definition of what a plain file and a day have in common. Read in this order.
pub mod Sections
pub mod Checks
pub mod Labels
pub mod Refusals
