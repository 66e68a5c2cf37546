-- The terms in which the contracts of the code speak of allowances. No part of the definition.
use Rattle.std.specs.Prelude.{List, ℕ, get_or, set, replicate}
use Rattle.admission.specs.declared.Allowance.{Allowance}
use Rattle.admission.specs.Admission.{rest}

-- what a caller has left behind a job
abbrev pub rest_of : Allowance → ℕ → Allowance
rest_of a steps = record { left = rest a.left steps }

-- caller c's allowance
abbrev pub allowance_of : List Allowance → ℕ → Allowance
allowance_of callers c = get_or callers c (record { left = 0 })

-- what each caller has left behind a job of caller c
abbrev pub callers_after : List Allowance → ℕ → ℕ → List Allowance
callers_after callers c steps = set callers c (rest_of (allowance_of callers c) steps)

-- each of the 16 has so many steps left
abbrev pub allowances_of : ℕ → List Allowance
allowances_of steps = replicate 16 (record { left = steps })
