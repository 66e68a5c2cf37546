use mathlib.Core.Path.{◌≡◌, sym, ◌∙◌}
use Prim.Native.Nat.{ℕ}
use native.Mathlib.Nat.{le_of_eq}
use lib.ListN.{length, replicate, length-replicate}
use Rattle.day_file.proofs.Answers.{day-loads}
use Rattle.day_printing.proofs.print_day.Goals as goal

pub invariant_of-day : goal.invariant_of-day
invariant_of-day g c = record { loads = day-loads _ _ _ _ (sym c.in-Ok.is ∙ c.load_day.ensures.0) c.load_day.ensures.1 }

-- by the lemma, since counting so many zeros takes the checker long
long : 1116816 ≡ length {A = ℕ} (replicate 1116816 0)
long = sym (length-replicate {A = ℕ} 1116816 0)

pub slice_bounds-print_labels-end : goal.slice_bounds-print_labels-end
slice_bounds-print_labels-end g c = long

pub print_labels-requires-clause-room : goal.print_labels-requires-clause-room
print_labels-requires-clause-room g c = le_of_eq long
