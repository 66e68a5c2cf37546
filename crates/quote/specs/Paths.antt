-- Paths through a graph whose nodes are the places of a code, and the largest cost of any: "work out the largest steps and
-- places along any path".
use Rattle.std.specs.Prelude.{true, List, [], ◌∷◌, ◌≡◌, ℕ, zero, suc, ◌+◌, max}
use Rattle.formulas.specs.Lists.{among}

-- a path from place i to its end: it goes on at any of a place's successors, and stops where there are none
pub data Path (successors : ℕ → List ℕ) : ℕ → Type 0 where
  stops : {i : ℕ} → successors i ≡ [] → Path successors i
  goes : {i : ℕ} (j : ℕ) → among j (successors i) ≡ true → Path successors j → Path successors i

-- what a path costs: its places' costs added up
unfoldable pub path_cost : (ℕ → ℕ) → {successors : ℕ → List ℕ} {i : ℕ} → Path successors i → ℕ
path_cost cost {i = i} (stops e) = cost i
path_cost cost {i = i} (goes j e p) = cost i + path_cost cost p

-- the largest of f at some places, 0 where there are none
abbrev pub most : (ℕ → ℕ) → List ℕ → ℕ
most f [] = 0
most f (i ∷ is) = max (f i) (most f is)

-- the largest cost of a path from place i on; n bounds the places on it
unfoldable pub largest : (ℕ → ℕ) → (ℕ → List ℕ) → ℕ → ℕ → ℕ
largest cost successors zero i = 0
largest cost successors (suc n) i = cost i + most (largest cost successors n) (successors i)
