-- What is left of the sweep decides.
use Rattle.std.proofs.Common.{◌≡◌, ◌-◌, length}
use Rattle.code_check.specs.Sweep.{all, instr_ok}
use Rattle.code_check.proofs.Starts.{from}
use Rattle.code_check.proofs.instrs_ok.Given as goal

abbrev pub invariant-loop-i : goal.invariant-loop-i
invariant-loop-i l = all (instr_ok l.labels l.inputs l.code) (from l.code 0) ≡ all (instr_ok l.labels l.inputs l.code) (from l.code l.i)

abbrev pub decreases-loop-i : goal.decreases-loop-i
decreases-loop-i l = length l.code - l.i
