-- What the functions of the pass share with each other. No part of the definition.
use Rattle.std.specs.Prelude.{true, List, [], ◌∷◌, ◌≡◌, ℕ, ◌+◌, ◌≤◌, ◌<◌, ◌^◌, length, get_or, set, Option}
use Rattle.std.specs.Bool.{then_some}
use Rattle.code_check.specs.Sweep.{code_ok}
use Rattle.quote.specs.Paths.{most}
use Rattle.quote.specs.Quoting.{Node}
use Rattle.quote.specs.declared.Figures.{Figures}

-- the list with xs put into it from place n on
abbrev pub put : ℕ → List ℕ → List ℕ → List ℕ
put n [] l = l
put n (x ∷ xs) l = put (n + 1) xs (set l n x)

-- the figures that stand at a place
abbrev pub at : List Figures → ℕ → Figures
at fs i = get_or fs i (record { steps = 0; places = 0 })

abbrev pub steps_in : List Figures → ℕ → ℕ
steps_in fs i = (at fs i).steps

abbrev pub places_in : List Figures → ℕ → ℕ
places_in fs i = (at fs i).places

-- no sum of one of them and what an instruction costs wraps
pub record Small (fs : List Figures) : Type 0 where
  pub steps : (i : ℕ) → steps_in fs i < 2 ^ 29
  pub places : (i : ℕ) → places_in fs i < 2 ^ 29

-- what an instruction costs, with the largest of its successors; none where check 11 applies to it
abbrev pub weight_from : List Figures → Node → Option Figures
weight_from fs x =
    then_some x.ahead
    (record { steps = x.steps + most (steps_in fs) x.successors; places = x.places + most (places_in fs) x.successors })

-- code that has passed check 7
pub record Checked (code : List ℕ) : Type 0 where
  pub labels : ℕ
  pub inputs : ℕ
  pub passes : code_ok labels inputs code ≡ true
  pub some : 1 ≤ length code
  pub short : length code ≤ 4096
