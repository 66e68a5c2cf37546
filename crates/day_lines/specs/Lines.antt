-- What is printed of a day: for each label in turn a line for each job, that label reading; or its refusal.
use Rattle.std.specs.Prelude.{Bool, cond, List, [], ◌++◌, ℕ, zero, suc, eqb}
use Rattle.labels.specs.Order.{flows}
use Rattle.labels.specs.declared.Label.{Label}
use Rattle.day_file.specs.Sections.{day_header, day_label}
use Rattle.day_file.specs.Checks.{day_refusal}
use Rattle.lines.specs.Lines.{line, refused_line}
use Rattle.day_jobs.specs.Running.{Turn, day_turns}
use Rattle.day.specs.Views.{turn_view, each_turn}

-- the line of what a reader is shown of a job's turn
abbrev pub turn_line : (Label → Bool) → Turn → List ℕ
turn_line Reads t = line (turn_view Reads t)

-- the lines of label i: one for each job, the skipped ones too
unfoldable pub day_lines : List ℕ → ℕ → List ℕ
day_lines bs i = each_turn (turn_line (λ l. flows l (day_label bs i))) (day_turns bs)

-- the lines of n labels from index i on
unfoldable pub label_lines : List ℕ → ℕ → ℕ → List ℕ
label_lines bs zero i = []
label_lines bs (suc n) i = day_lines bs i ++ label_lines bs n (suc i)

-- What the program prints of a day. It goes out in parts, and the contracts are of these: the line of a refusal, or the
-- lines of each label.
unfoldable pub day_printed : List ℕ → List ℕ
day_printed bs = cond (eqb (day_refusal bs) 0) (label_lines bs (day_header bs).labels.count 0) (refused_line (day_refusal bs))
