-- The definition of a day's views. No part of it is in `Parts`.
pub mod Views
pub mod Parts
