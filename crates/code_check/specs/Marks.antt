-- What the functions that check the code share with each other. No part of the definition.
use Rattle.std.specs.Prelude.{Bool, true, false, List, [], ◌∷◌, ◌≡◌, ℕ, get_or, set}
use Rattle.model.specs.declared.Instr.{Instr}
use Rattle.formulas.specs.Lists.{among}
use Rattle.code_check.specs.Sweep.{operands_ok}

-- the marks set at each start
abbrev pub mark : List ℕ → List Bool → List Bool
mark [] ms = ms
mark (i ∷ is) ms = mark is (set ms i true)

-- a place is marked if it is among the starts, and else not
pub record Marks (ms : List Bool) (is : List ℕ) : Type 0 where
  pub at : (t : ℕ) → get_or ms t false ≡ among t is

-- r says whether the operands of i are within their limits, by the marks of the starts
pub record OperandsIn (l c : ℕ) (ms : List Bool) (i : Instr) (r : Bool) : Type 0 where
  pub by : (is : List ℕ) → Marks ms is → r ≡ operands_ok l c is i
