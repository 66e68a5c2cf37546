-- The allowances that the code holds are what the definition says that each caller has left.
use mathlib.Core.Bool.{Bool, true, false}
use mathlib.Core.List.{List}
use mathlib.Core.Path.{◌≡◌, refl, sym, ap, ◌∙◌}
use Prim.Native.Nat.{ℕ, ◌<◌}
use native.Mathlib.Omega.{arith}
use lib.Dec.{eqb}
use lib.ListN.{length, set, length-set, length-replicate, get_or-replicate}
use lib.Seq.{get_or-set_same, get_or-set_other}
use borrow.Author.Tests.{eqb-true, eqb-false}
use Rattle.day_file.specs.declared.Job.{Job}
use Rattle.admission.specs.declared.Allowance.{Allowance}
use Rattle.admission.specs.Admission.{fits, rest, allowed, left_after}
use Rattle.admission.proofs.After.{others_rest, own_rest}
use Rattle.admission.specs.Allowances.{rest_of, allowance_of, callers_after, allowances_of}

-- there are 16, and each holds what its caller has left
pub record Holds (callers : List Allowance) (left : ℕ → ℕ) : Type 0 where
  pub count : length callers ≡ 16
  pub each : (c : ℕ) → c < 16 → (allowance_of callers c).left ≡ left c

pub at_first : (limit : ℕ) → Holds (allowances_of limit) (allowed limit)
unfolding allowed
at_first limit =
    let full : Allowance = record { left = limit } in
    record { count = length-replicate 16 full; each = λ c h. ap (λ (a : Allowance). a.left) (get_or-replicate 16 c full (record { left = 0 }) h) }

module _ {callers : List Allowance} {left : ℕ → ℕ} (w : Holds callers left) (j : Job) (small : j.caller < 16) where
  abbrev rest_then : Allowance
  rest_then = rest_of (allowance_of callers j.caller) j.steps

  -- what caller c has left behind the job
  behind : (c : ℕ) → c < 16 → (b : Bool) → eqb j.caller c ≡ b → (allowance_of (set callers j.caller rest_then) c).left ≡ left_after left j c
  behind c h true e =
      rw (own_rest left j c e, ← eqb-true j.caller c e, get_or-set_same callers j.caller rest_then (record { left = 0 }) (omega (arith, w.count, small)))
      (ap (λ (l : ℕ). rest l j.steps) (w.each j.caller small))
  behind c h false e =
      rw (others_rest left j c e, get_or-set_other callers j.caller c rest_then (record { left = 0 }) (λ q. eqb-false j.caller c e (sym q))) (w.each c h)

  -- so the job is answered as the definition has it
  pub answered : fits (allowance_of callers j.caller).left j.steps ≡ fits (left j.caller) j.steps
  answered = ap (λ (l : ℕ). fits l j.steps) (w.each j.caller small)

  pub holds_then : Holds (callers_after callers j.caller j.steps) (left_after left j)
  holds_then = record { count = length-set callers j.caller rest_then ∙ w.count; each = λ c h. behind c h (eqb j.caller c) refl }
