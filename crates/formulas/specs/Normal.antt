-- Labels: the normal form of a formula over n principals, one list of clauses for each table that can arise.
-- Assumes nothing.
use Rattle.std.specs.Prelude.{Bool, true, false, not, ◌&&◌, ◌||◌, List, [], ◌∷◌, ◌≡◌, ℕ, zero, suc, ◌+◌, ◌-◌, ◌/◌, ◌^◌, T, ltb}
use Rattle.std.specs.Int.Bits.{bit_or}
use Rattle.formulas.specs.Bits.{bit}
use Rattle.formulas.specs.Formula.{table, implies}

-- the clause c may stand before the clauses ds: it is below each, and a subset of none
abbrev pub leads : ℕ → List ℕ → Bool
leads c [] = true
leads c (d ∷ ds) = ltb c d && (not (implies c d) && leads c ds)

-- Labels: "Masks of one formula ascend strictly, none is a subset of another", and each is below 2 ^ n.
abbrev pub canonical : ℕ → List ℕ → Bool
canonical n [] = true
canonical n (c ∷ cs) = ltb c (2 ^ n) && (leads c cs && canonical n cs)

-- how many of n principals' sets have k members
abbrev pub choose : ℕ → ℕ → ℕ
choose n zero = 1
choose zero (suc k) = 0
choose (suc n) (suc k) = choose n k + choose n (suc k)

-- Labels: "A formula has at most" so many such clauses: 20 of six principals, T-07: 70 of eight
abbrev pub most_clauses : ℕ → ℕ
most_clauses n = choose n (n / 2)

-- the test f passes at every number below n
abbrev pub all_below : ℕ → (ℕ → Bool) → Bool
all_below zero f = true
all_below (suc n) f = f n && all_below n f

-- the principal p is in the set x, or x with p is in the table t
abbrev pub passes_with : ℕ → ℕ → ℕ → Bool
passes_with t x p = bit x p || bit t (bit_or x (2 ^ p))

-- the set x is not in the table t, and is with any one more of the n principals: a maximal false point of the formula
unfoldable pub maximal_false : ℕ → ℕ → ℕ → Bool
maximal_false n t x = not (bit t x) && all_below n (passes_with t x)

abbrev pub cons_if : Bool → ℕ → List ℕ → List ℕ
cons_if true c cs = c ∷ cs
cons_if false c cs = cs

-- the numbers from lo on, k of them, that pass the test f
abbrev pub selected : (ℕ → Bool) → ℕ → ℕ → List ℕ
selected f lo zero = []
selected f lo (suc k) = cons_if (f lo) lo (selected f (suc lo) k)

-- the clauses of a table, ascending: the complements of the maximal false points
unfoldable pub clauses : ℕ → ℕ → List ℕ
clauses n t = selected (λ c. maximal_false n t (2 ^ n - 1 - c)) 0 (2 ^ n)

-- Labels: "Every table that can arise has one such list, and writing it gives that list."
pub record Normal (n t : ℕ) : Type 0 where
  pub form : T (canonical n (clauses n t))
  pub same : table n (clauses n t) ≡ t
  pub only : (cs : List ℕ) → T (canonical n cs) → table n cs ≡ t → cs ≡ clauses n t
