-- Labels: clauses, formulas and their tables, for n principals, numbered from 0.
-- A set of principals is a mask: the number below 2 ^ n whose digit p says whether principal p is a member.
-- Assumes nothing.
use Rattle.std.specs.Prelude.{Bool, true, ◌&&◌, List, [], ◌∷◌, ◌++◌, map, ◌≡◌, ℕ, ◌^◌, ◌<◌, T, eqb}
use Rattle.std.specs.Int.Bits.{bit_and, bit_or}
use Rattle.formulas.specs.Bits.{nonzero, from_bits}

-- Labels: "A clause is a byte mask; bit p set means principal p may vouch. A clause holds for a set of principals that
-- shares a member with it."
unfoldable pub holds : ℕ → ℕ → Bool
holds c x = nonzero (bit_and c x)

-- Labels: "A formula is the AND of its clauses; none is True, and the single empty clause (mask 0) is False."
-- `satisfied cs x`: the set x satisfies the formula cs
abbrev pub satisfied : List ℕ → ℕ → Bool
satisfied [] x = true
satisfied (c ∷ cs) x = holds c x && satisfied cs x

-- Labels, implies: every set of the n principals that satisfies the first formula satisfies the second.
abbrev pub Entails : ℕ → List ℕ → List ℕ → Type 0
Entails n cs ds = (x : ℕ) → x < 2 ^ n → T (satisfied cs x) → T (satisfied ds x)

-- the AND of two formulas: the clauses of both
abbrev pub conjunction : List ℕ → List ℕ → List ℕ
conjunction cs ds = cs ++ ds

-- the OR of two formulas: each clause of the one united with each of the other
abbrev pub disjunction : List ℕ → List ℕ → List ℕ
disjunction [] ds = []
disjunction (c ∷ cs) ds = map (bit_or c) ds ++ disjunction cs ds

-- Labels: "bit i of a table stands for the set of principals whose mask is i": whether it satisfies the formula.
unfoldable pub table : ℕ → List ℕ → ℕ
table n cs = from_bits (2 ^ n) (satisfied cs)

-- every set in the table a is in the table b; of two masks, that a is a subset of b
unfoldable pub implies : ℕ → ℕ → Bool
implies a b = eqb (bit_and a b) a

-- t can arise: it is the table of some formula
abbrev pub Arises : ℕ → ℕ → Type 0
Arises n t = (cs : List ℕ) × (t ≡ table n cs)
