-- Laws that the proofs of the functions cite, and that just the admitted jobs are run.
pub mod JobEnd
pub mod Jobs
pub mod Turns
pub mod Admitted
pub mod Between
