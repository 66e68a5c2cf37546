-- What the functions that run a day's jobs share with each other. No part of the definition.
use Rattle.std.specs.Prelude.{List, ℕ, ◌+◌, ◌≤◌, ◌<◌, ◌^◌, length}
use Rattle.day_file.specs.declared.Header.{Header}
use Rattle.day_file.specs.declared.Job.{Job}

-- what check 10 has found of a job: its caller is one of 16, its span is the file's, and it has places for the input records, 256
-- at most
pub record Runnable (h : Header) (j : Job) (bs : List ℕ) : Type 0 where
  pub caller : j.caller < 16
  pub span : h.code.offset + j.start + j.length ≤ length bs
  pub short : j.length < 2 ^ 16
  pub inputs : h.records.count ≤ j.places
  pub places : j.places ≤ 256
