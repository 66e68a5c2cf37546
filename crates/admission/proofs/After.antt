-- What a job leaves its own caller, and another.
use mathlib.Core.Bool.{Bool, true, false, cond}
use mathlib.Core.Path.{◌≡◌, ap}
use Prim.Native.Nat.{ℕ}
use lib.Dec.{eqb}
use Rattle.day_file.specs.declared.Job.{Job}
use Rattle.admission.specs.Admission.{rest, left_after}

module _ (left : ℕ → ℕ) (j : Job) (c : ℕ) where
  pub others_rest : eqb j.caller c ≡ false → left_after left j c ≡ left c
  unfolding left_after
  others_rest e = ap (λ (b : Bool). cond b (rest (left c) j.steps) (left c)) e

  pub own_rest : eqb j.caller c ≡ true → left_after left j c ≡ rest (left c) j.steps
  unfolding left_after
  own_rest e = ap (λ (b : Bool). cond b (rest (left c) j.steps) (left c)) e
