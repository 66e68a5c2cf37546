-- The definition of a day's jobs: how each is run, and how it ends. Read in this order.
pub mod JobEnd
pub mod Running
pub mod Parts
pub mod Jobs
