-- The views of a day, and reading a day for a label into a buffer.
use Rattle.std.specs.Prelude.{Bool, List, [], ◌∷◌, ◌++◌, ℕ, replicate}
use Rattle.labels.specs.Tables.{principals}
use Rattle.labels.specs.Order.{flows}
use Rattle.labels.specs.declared.Label.{Label}
use Rattle.view_fields.specs.Fields.{little_endian}
use Rattle.view.specs.Layout.{final_width, start_over, view_over}
use Rattle.view.specs.Reading.{Reading, answered}
use Rattle.day_file.specs.Sections.{day_header, day_label_over}
use Rattle.day_file.specs.Checks.{day_refusal}
use Rattle.day_jobs.specs.Running.{Turn, skipped, ran, day_turns_over}

-- "Its view is 62 bytes with ending 4 (skipped ...), shown to all, both length fields, and the rest 0." T-07: 206 replaces 62,
-- "for a skipped job too". Over n principals.
unfoldable pub skipped_view_over : ℕ → List ℕ
skipped_view_over n =
    little_endian 2 4 ++ replicate 6 0 ++ little_endian 2 (start_over n) ++ little_endian 2 (start_over n)
    ++ replicate (final_width n) 0

unfoldable pub turn_view_over : ℕ → (Label → Bool) → Turn → List ℕ
turn_view_over n Reads skipped = skipped_view_over n
turn_view_over n Reads (ran s o) = view_over n Reads s o

-- what is made of each turn, end to end
unfoldable pub each_turn : (Turn → List ℕ) → List Turn → List ℕ
each_turn f [] = []
each_turn f (t ∷ ts) = f t ++ each_turn f ts

-- "There is one view per job, laid end to end": what the label with index i is shown of a day that loads
unfoldable pub day_view_over : ℕ → List ℕ → ℕ → List ℕ
day_view_over n bs i = each_turn (turn_view_over n (λ l. flows l (day_label_over n bs i))) (day_turns_over n bs)

-- over the principals that there are
abbrev pub skipped_view : List ℕ
skipped_view = skipped_view_over principals

abbrev pub turn_view : (Label → Bool) → Turn → List ℕ
turn_view = turn_view_over principals

abbrev pub turn_views : (Label → Bool) → List Turn → List ℕ
turn_views Reads ts = each_turn (turn_view Reads) ts

abbrev pub day_view : List ℕ → ℕ → List ℕ
day_view = day_view_over principals

-- "check 9 is on their sum"
unfoldable pub day_reading : List ℕ → ℕ → List ℕ → Reading
day_reading bs i buffer = answered (day_refusal bs) (day_header bs).labels.count (day_view bs i) i buffer
