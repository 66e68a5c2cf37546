-- What the views of a day show, apart from how wide they are; and the views as that, laid out over n principals.
use Rattle.std.specs.Prelude.{Bool, List, [], ◌∷◌, ◌++◌, map, ℕ}
use Rattle.labels.specs.Order.{flows}
use Rattle.labels.specs.declared.Label.{Label}
use Rattle.relabelling.specs.Relabelled.{outcome_under}
use Rattle.day_file.specs.Sections.{day_label_over}
use Rattle.day_jobs.specs.Running.{Turn, skipped, ran, day_turns_over}
use Rattle.day.specs.Views.{skipped_view_over}
use Rattle.old_files.specs.Contents.{Contents, contents_of, contents_under, layout}

-- of a job's view: that the job was skipped, or what the view of its run shows
pub data JobContents : Type 0 where
  was_skipped : JobContents
  shows : Contents → JobContents

-- ── what the views are of ──

abbrev pub turn_contents : (Label → Bool) → Turn → JobContents
turn_contents Reads skipped = was_skipped
turn_contents Reads (ran s o) = shows (contents_of Reads s o)

-- of a day's views for the label with index i, over n principals
abbrev pub day_contents : ℕ → List ℕ → ℕ → List JobContents
day_contents n bs i = map (turn_contents (λ l. flows l (day_label_over n bs i))) (day_turns_over n bs)

-- ── how they are laid out ──

abbrev pub job_layout : ℕ → JobContents → List ℕ
job_layout n was_skipped = skipped_view_over n
job_layout n (shows c) = layout n c

-- end to end, over n principals
unfoldable pub day_layout : ℕ → List JobContents → List ℕ
day_layout n [] = []
day_layout n (c ∷ cs) = job_layout n c ++ day_layout n cs

-- ── under a map h of labels ──

module _ (h : Label → Label) where
  -- the same jobs are skipped, and the others have their outcomes' labels mapped
  abbrev pub turn_under : Turn → Turn
  turn_under skipped = skipped
  turn_under (ran s o) = ran s (outcome_under h o)

  abbrev pub job_contents_under : JobContents → JobContents
  job_contents_under was_skipped = was_skipped
  job_contents_under (shows c) = shows (contents_under h c)
