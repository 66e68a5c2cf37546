-- The bench cases P1 to P12 and those of T-02 and T-03 as one table, and the printed example.
pub mod Machine
pub mod WhichHalf
pub mod Catching
pub mod Table
pub mod Example
