-- A day's turns as they are kept: how each job that was run ended, and the store that it left.
use Rattle.std.specs.Prelude.{Bool, List, ◌≡◌, ℕ, ◌<◌, length, get_or, Option, Some, None}
use Rattle.labels.specs.declared.Label.{Label}
use Rattle.view.specs.Writing.{finished}
use Rattle.day_file.specs.Sections.{day_header}
use Rattle.day_jobs.specs.Running.{Turn, skipped, ran, day_turns}
use Rattle.day.specs.Views.{turn_view}
use Rattle.day_turns.specs.declared.kept.KeptJob.{KeptJob}

-- the turn of a job, by what is kept of it
abbrev pub turn_of : Option KeptJob → Turn
turn_of None = skipped
turn_of (Some j) = ran j.steps (finished j.finish j.store)

-- two turns show any reader the same
abbrev pub SameViews : Turn → Turn → Type 0
SameViews t u = (Reads : Label → Bool) → turn_view Reads t ≡ turn_view Reads u

-- The turn of each job is kept: it shows any reader what the day's turn does.
pub record Kept (bs : List ℕ) (kept : List (Option KeptJob)) : Type 0 where
  pub count : length (day_turns bs) ≡ (day_header bs).jobs.count
  pub each : (k : ℕ) → k < (day_header bs).jobs.count → SameViews (turn_of (get_or kept k None)) (get_or (day_turns bs) k skipped)
