-- The definition of a script file: its sections, and what stops it. Read in this order.
pub mod Sections
pub mod Checks
pub mod Program
pub mod Loading
pub mod Parts
