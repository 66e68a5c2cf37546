-- The largest cost of a path is the largest: no path costs more, and one costs as much. For any costs, and for any places from
-- which every path leads ahead and that are all below a bound.
use mathlib.Core.Bool.{true, true≢false, or-eq-true_iff}
use mathlib.Core.List.{List, [], ◌∷◌}
use mathlib.Core.Logic.Or
use mathlib.Core.Logic.{◌⊎◌, inl, inr}
use mathlib.Core.Path.{◌≡◌, refl, sym, ap}
use Prim.Native.Nat.{ℕ, zero, suc, ◌+◌, ◌*◌, ◌≤◌, ◌<◌, max}
use native.Mathlib.Decide.{dec_le}
use native.Mathlib.Omega.{arith}
use lib.Dec.{eqb}
use borrow.Author.Tests.{eqb-true, eq-eqb}
use Rattle.formulas.specs.Lists.{among}
use Rattle.noninterference.proofs.Starts.{either}
use Rattle.quote.specs.Paths.{Path, stops, goes, path_cost, most, largest}

-- ── members of a list ──

pub among_first : (i : ℕ) (is : List ℕ) → among i (i ∷ is) ≡ true
among_first i is = rw (eq-eqb i i refl)

pub among_later : (j i : ℕ) (is : List ℕ) → among j is ≡ true → among j (i ∷ is) ≡ true
among_later j i is e = (or-eq-true_iff (eqb j i) (among j is)).1 (Or.inr e)

-- a member is the first or a later one
pub which : (j i : ℕ) (is : List ℕ) → among j (i ∷ is) ≡ true → (j ≡ i) ⊎ (among j is ≡ true)
which j i is e = by (either (eqb j i) (among j is) e)
  where
    by : (eqb j i ≡ true) ⊎ (among j is ≡ true) → (j ≡ i) ⊎ (among j is ≡ true)
    by (inl h) = inl (eqb-true j i h)
    by (inr h) = inr h

-- ── the largest of some ──

pub most_same : (f g : ℕ → ℕ) (is : List ℕ) → ((j : ℕ) → among j is ≡ true → f j ≡ g j) → most f is ≡ most g is
most_same f g [] h = refl
most_same f g (i ∷ is) h =
    rw (h i (among_first i is)) (ap (max (g i)) (most_same f g is (λ j e. h j (among_later j i is e))))

pub most_above : (f : ℕ → ℕ) (is : List ℕ) (j : ℕ) → among j is ≡ true → f j ≤ most f is
most_above f [] j e = absurd (true≢false (sym e))
most_above f (i ∷ is) j e = by (most_above f is j) (which j i is e)
  where
    by : (among j is ≡ true → f j ≤ most f is) → (j ≡ i) ⊎ (among j is ≡ true) → f j ≤ most f (i ∷ is)
    by later (inl h) = omega (arith, ap f h)
    by later (inr h) = omega (arith, later h)

-- it is that of one of them
pub record Reached (f : ℕ → ℕ) (is : List ℕ) : Type 0 where
  pub at : ℕ
  pub member : among at is ≡ true
  pub value : f at ≡ most f is

pub most_reached : (f : ℕ → ℕ) (i : ℕ) (is : List ℕ) → Reached f (i ∷ is)
most_reached f i [] = record { at = i; member = among_first i []; value = omega arith }
most_reached f i (j ∷ is) = by (most_reached f j is) (dec_le (most f (j ∷ is)) (f i))
  where
    by : Reached f (j ∷ is) → Dec (most f (j ∷ is) ≤ f i) → Reached f (i ∷ j ∷ is)
    by r (yes le) = record { at = i; member = among_first i (j ∷ is); value = omega arith }
    by r (no gt) = record { at = r.at; member = among_later r.at i (j ∷ is) r.member; value = omega (arith, r.value) }

pub most_within : (f : ℕ → ℕ) (is : List ℕ) (m : ℕ) → ((j : ℕ) → f j ≤ m) → most f is ≤ m
most_within f [] m h = omega arith
most_within f (i ∷ is) m h = omega (arith, h i, most_within f is m h)

-- ── paths ──

-- n places cost at most n times what one costs
pub largest_within : (cost : ℕ → ℕ) (s : ℕ → List ℕ) (m : ℕ) → ((i : ℕ) → cost i ≤ m) → (n i : ℕ) → largest cost s n i ≤ n * m
unfolding largest
largest_within cost s m h zero i = omega arith
largest_within cost s m h (suc n) i =
    omega (arith, h i, most_within (largest cost s n) (s i) (n * m) (largest_within cost s m h n))

-- from each of these places a path leads ahead, to others of them below a bound
pub record Forward (s : ℕ → List ℕ) (bound : ℕ) (N : ℕ → Type 0) : Type 0 where
  pub below : (i : ℕ) → N i → i < bound
  pub onward : (i j : ℕ) → N i → among j (s i) ≡ true → N j
  pub ahead : (i j : ℕ) → N i → among j (s i) ≡ true → i < j

module _ (cost : ℕ → ℕ) (s : ℕ → List ℕ) (bound : ℕ) (N : ℕ → Type 0) (F : Forward s bound N) where
  -- as many places as there are ahead are enough
  pub enough : (n m i : ℕ) → N i → bound ≤ n + i → bound ≤ m + i → largest cost s n i ≡ largest cost s m i
  unfolding largest
  enough zero m i h p q = absurd (omega (arith, F.below i h))
  enough (suc n) zero i h p q = absurd (omega (arith, F.below i h))
  enough (suc n) (suc m) i h p q =
      ap (λ (x : ℕ). cost i + x)
      (most_same (largest cost s n) (largest cost s m) (s i)
      (λ j e. enough n m j (F.onward i j h e) (omega (arith, F.ahead i j h e)) (omega (arith, F.ahead i j h e))))

  -- the same at a place and at its successors
  pub unfolded : (n i : ℕ) → N i → bound ≤ n → largest cost s n i ≡ cost i + most (largest cost s n) (s i)
  unfolding largest
  unfolded zero i h p = absurd (omega (arith, F.below i h))
  unfolded (suc n) i h p =
      ap (λ (x : ℕ). cost i + x)
      (most_same (largest cost s n) (largest cost s (suc n)) (s i)
      (λ j e. enough n (suc n) j (F.onward i j h e) (omega (arith, F.ahead i j h e)) (omega arith)))

  -- No path costs more.
  pub no_path_more : (n i : ℕ) → N i → bound ≤ n → (p : Path s i) → path_cost cost p ≤ largest cost s n i
  unfolding path_cost
  no_path_more n i h b (stops e) = omega (arith, unfolded n i h b)
  no_path_more n i h b (goes j e p) =
      omega (arith, unfolded n i h b, most_above (largest cost s n) (s i) j e, no_path_more n j (F.onward i j h e) b p)

  -- Some path costs as much.
  pub some_path : (n i : ℕ) → N i → bound ≤ n + i → (p : Path s i) × (path_cost cost p ≡ largest cost s n i)
  unfolding largest path_cost
  some_path zero i h b = absurd (omega (arith, F.below i h))
  some_path (suc n) i h b = by (some_path n) (s i) refl
    where
      by : ((j : ℕ) → N j → bound ≤ n + j → (p : Path s j) × (path_cost cost p ≡ largest cost s n j)) → (is : List ℕ) → s i ≡ is
          → (p : Path s i) × (path_cost cost p ≡ cost i + most (largest cost s n) (s i))
      by next [] e = (stops e, rw e (omega arith))
      by next (k ∷ ks) e =
          let r = most_reached (largest cost s n) k ks in
          let g : among r.at (s i) ≡ true = rw e r.member in
          let p = next r.at (F.onward i r.at h g) (omega (arith, F.ahead i r.at h g)) in
          (goes r.at g p.0, rw e (omega (arith, p.1, r.value)))
