-- What is left of the sweep makes the rest of the marks.
use Rattle.std.proofs.Common.{◌≡◌, ◌-◌, length}
use Rattle.code_check.specs.Sweep.{last_of}
use Rattle.code_check.specs.Marks.{mark}
use Rattle.code_check.proofs.Starts.{from}
use Rattle.code_check.proofs.mark_starts.Given as goal

abbrev pub invariant-loop-i : goal.invariant-loop-i
invariant-loop-i l =
    (mark (from l.code 0) l.initial.marks ≡ mark (from l.code l.i) l.marks)
    × (last_of 0 (from l.code 0) ≡ last_of l.last (from l.code l.i))

abbrev pub decreases-loop-i : goal.decreases-loop-i
decreases-loop-i l = length l.code - l.i
