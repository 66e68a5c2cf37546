-- Laws of tests: the first of a list of tests that fails.
use mathlib.Core.Bool.{Bool, true, false}
use mathlib.Core.List.{List, [], ◌∷◌}
use mathlib.Core.Path.{◌≡◌, refl}
use Prim.Native.Nat.{ℕ, suc, ◌+◌, ◌≤◌}
use native.Mathlib.Omega.{arith}
use lib.ListN.{length}
use Rattle.file_sections.proofs.Tests.{Each}
use Rattle.script_file.specs.Checks.{lowest}

-- where no test fails each holds
pub lowest_each : (n : ℕ) (ts : List Bool) → lowest (suc n) ts ≡ 0 → Each ts
lowest_each n [] e = tt
lowest_each n (true ∷ ts) e = (refl, lowest_each (suc n) ts e)
lowest_each n (false ∷ ts) e = absurd (omega arith)

-- the first that fails is one of them
pub lowest_most : (n : ℕ) (ts : List Bool) → lowest (suc n) ts ≤ n + length ts
lowest_most n [] = omega arith
lowest_most n (true ∷ ts) = omega (arith, lowest_most (suc n) ts)
lowest_most n (false ∷ ts) = omega arith
