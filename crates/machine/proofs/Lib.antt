-- Stack: a stack that grows downwards. Methods: the run state's methods. Applying: each effect on the state. Turns:
-- instructions one after the other, and a run. Loop: what the loop of `step` keeps.
pub mod Stack
pub mod Methods
pub mod Applying
pub mod Turns
pub mod Loop
