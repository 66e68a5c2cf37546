-- Theorems on the definition of the machine. Read in this order.
-- Lemmas on tests and lists.
pub mod Tests
pub mod Places
-- One run, by the effects of an instruction: fuel, steps and places, what is kept.
pub mod Effects
pub mod Fuel
pub mod Costs
pub mod Bounds
pub mod Spending
pub mod Kept
-- Two runs: what an observer sees of both.
pub mod Plans
pub mod LowEquivalence
pub mod BlockOutcome
pub mod TwoSteps
pub mod TwoRuns
pub mod Start
-- Every state that a run reaches.
pub mod Landing
pub mod Reached
pub mod Cap
