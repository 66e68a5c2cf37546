-- Laws of tests: what a list of tests says of each.
use mathlib.Core.Bool.{Bool, true, false, true≢false}
use mathlib.Core.List.{List, [], ◌∷◌}
use mathlib.Core.Path.{◌≡◌, refl, sym}
use Rattle.file_sections.specs.Checks.{every}

-- each test of a list holds
abbrev pub Each : List Bool → Type 0
Each [] = Unit {0}
Each (t ∷ ts) = (t ≡ true) × Each ts

pub every_each : (ts : List Bool) → every ts ≡ true → Each ts
unfolding every
every_each [] e = tt
every_each (true ∷ ts) e = (refl, every_each ts e)
every_each (false ∷ ts) e = absurd (true≢false (sym e))
