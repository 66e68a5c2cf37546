-- `quote::list_starts`: what is left of the sweep makes the rest of the list.
use Rattle.std.proofs.Common.{◌≡◌, ◌≤◌, ◌+◌, ◌-◌, length}
use Rattle.code_check.proofs.Starts.{from}
use Rattle.quote.specs.Passes.{put}
use Rattle.quote.proofs.list_starts.Given as goal

abbrev pub invariant-loop-i : goal.invariant-loop-i
invariant-loop-i l =
    record {
      few : l.n ≤ l.i;
      count : l.n + length (from l.code l.i) ≡ length (from l.code 0);
      rest : put 0 (from l.code 0) l.initial.list ≡ put l.n (from l.code l.i) l.list;
    }

abbrev pub decreases-loop-i : goal.decreases-loop-i
decreases-loop-i l = length l.code - l.i
