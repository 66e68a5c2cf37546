-- The loop over the jobs of a day: what is left of their lines.
use Rattle.std.specs.Prelude.{Option, Some, None}
use mathlib.Core.Bool.{Bool}
use mathlib.Core.List.{List, ◌++◌}
use mathlib.Core.Path.{◌≡◌, refl, sym, ap, ◌∙◌}
use Prim.Native.Nat.{ℕ, ◌+◌, ◌*◌, ◌≤◌, ◌<◌}
use native.Mathlib.Omega.{arith}
use lib.ListN.{length, get_or, drop, replicate, drop_of_length-le}
use Rattle.labels.specs.declared.Label.{Label}
use Rattle.model.specs.Decoding.{u16}
use Rattle.view_fields.specs.Fields.{little_endian}
use Rattle.view_fields.specs.Writing.{over}
use Rattle.view_fields.proofs.Buffers.{Writing, from_here, start, piece, ends as all_of, ends_at, part, back, room_for}
use Rattle.view.specs.Layout.{view}
use Rattle.view.specs.Writing.{observes, finished}
use Rattle.lines.specs.Lines.{hex, front_fields, widths, spaced, line}
use Rattle.file_lines.specs.Room.{longest_line}
use Rattle.day_file.specs.Sections.{day_header, day_label}
use Rattle.day_jobs.specs.Running.{skipped, day_turns}
use Rattle.day.specs.Views.{skipped_view, skipped_view_over, turn_view_over, each_turn}
use Rattle.day_turns.specs.Keeping.{turn_of, Kept}
use Rattle.day_turns.specs.declared.kept.KeptJob.{KeptJob}
use Rattle.day_lines.specs.Lines.{turn_line, day_lines}

-- ── a line ──

-- 13 fields, the last without a space but with a line feed, and two digits for each of 206 bytes
pub skipped_line : length (line skipped_view) ≡ 425
unfolding skipped_view_over little_endian u16 line front_fields widths spaced hex
skipped_line = refl

-- a buffer of 206 bytes holds the view of a skipped job and nothing else
pub skipped_alone : over skipped_view (replicate 206 0) ≡ skipped_view
unfolding over skipped_view_over little_endian
skipped_alone = refl

-- what a reader is shown of a job of which x is kept
module _ (Reads : Label → Bool) (x : Option KeptJob) where
  pub of_skipped : x ≡ None → line skipped_view ≡ turn_line Reads (turn_of x)
  unfolding turn_view_over
  of_skipped e = rw e

  pub of_run : (j : KeptJob) → x ≡ Some j → line (view Reads j.steps (finished j.finish j.store)) ≡ turn_line Reads (turn_of x)
  unfolding turn_view_over
  of_run j e = rw e

-- ── the jobs one by one ──

module _ (Reads : Label → Bool) (bs : List ℕ) where
  abbrev pub whole : List ℕ
  whole = each_turn (turn_line Reads) (day_turns bs)

  abbrev n : ℕ
  n = (day_header bs).jobs.count

  -- the lines of the first k jobs are written; the buffer was b₀ and is b, written up to `at`
  pub record Served (b₀ b : List ℕ) (at k : ℕ) : Type 0 where
    pub few : at ≤ longest_line * k
    pub writing : Writing whole (each_turn (turn_line Reads) (drop k (day_turns bs))) b₀ b at

  pub none_served : (b : List ℕ) → Served b b 0 0
  none_served b = record { few = omega arith; writing = start refl }

  module _ {kept : List (Option KeptJob)} (w : Kept bs kept) {b₀ b : List ℕ} {at k : ℕ} (s : Served b₀ b at k) where
    -- job k's line is written, in a buffer with room for the lines of all jobs
    module _ (room : longest_line * n ≤ length b₀) (h : k < n) {x : Option KeptJob} (is : x ≡ get_or kept k None) where
      pub room_here : longest_line ≤ length (part at b)
      room_here = room_for s.writing longest_line (omega (arith, s.few))

      line_here : each_turn (turn_line Reads) (drop k (day_turns bs))
          ≡ turn_line Reads (turn_of x) ++ each_turn (turn_line Reads) (drop (k + 1) (day_turns bs))
      unfolding each_turn
      line_here =
          ap (each_turn (turn_line Reads)) (from_here (day_turns bs) skipped k (omega (arith, w.count)))
          ∙ ap (λ (v : List ℕ). line v ++ each_turn (turn_line Reads) (drop (k + 1) (day_turns bs))) (rw is (sym (w.each k h Reads)))

      pub one_more : {m : ℕ} → m ≤ longest_line → m ≡ length (turn_line Reads (turn_of x)) → {ys : List ℕ} → ys ≡ over (turn_line Reads (turn_of x)) (part at b)
          → Served b₀ (back at b ys) (at + m) (k + 1)
      one_more small e q =
          record { few = omega (arith, s.few); writing = piece s.writing (turn_line Reads (turn_of x)) line_here (sym e) (omega (arith, s.few)) q }

    pub all_served : n ≤ k → (at ≡ length whole) × (b ≡ over whole b₀)
    unfolding each_turn
    all_served h =
        let e = ap (each_turn (turn_line Reads)) (drop_of_length-le (day_turns bs) {i = k} (omega (arith, w.count))) in
        (ends_at s.writing e, all_of s.writing e)

-- the lines for label i
pub lines_are : (bs : List ℕ) (i : ℕ) (l : Label) → l ≡ day_label bs i → whole (observes l) bs ≡ day_lines bs i
unfolding day_lines
lines_are bs i l e = rw e
