-- The definition of a day file: its sections and jobs, and what stops it. Read in this order.
pub mod Sections
pub mod Checks
pub mod Loading
pub mod Parts
