-- Code that passes checks 7 and 11: from each start every path leads ahead, to starts. And the pass from the back: where the
-- figures of all later starts are right, those of a start follow.
use mathlib.Core.Bool.{true, and-eq-true_iff}
use mathlib.Core.List.{List}
use mathlib.Core.Logic.{◌⊎◌, inl, inr}
use mathlib.Core.Path.{◌≡◌, sym, ap, ◌∙◌}
use Prim.Native.Nat.{ℕ, ◌+◌, ◌≤◌, ◌<◌}
use native.Mathlib.Omega.{arith}
use lib.Dec.{leb}
use lib.ListN.{length}
use borrow.Author.Tests.{leb-true}
use Rattle.model.specs.Decoding.{byte, known, fetch, after}
use Rattle.formulas.specs.Lists.{among}
use Rattle.code_check.specs.Sweep.{starts, all, instr_ok, code_ok}
use Rattle.code_check.proofs.Starts.{from, size_some, from_step, after_step}
use Rattle.noninterference.proofs.Starts.{all_among, start_ok, lands}
use Rattle.quote.specs.Paths.{most, largest}
use Rattle.quote.specs.Quoting.{node_at, successors_at, ahead_at}
use Rattle.quote.proofs.Largest.{most_same, Forward, unfolded}
use Rattle.quote.proofs.Nodes.{Onward, node_onward, each_among}
use Rattle.quote.proofs.Suffixes.{behind, first_in, split, from_within, from_onward, from_later}

-- g gives the largest cost of all starts from a place on
abbrev pub Right : List ℕ → (ℕ → ℕ) → ℕ → (ℕ → ℕ) → Type 0
Right code cost e g = (q : ℕ) → among q (from code e) ≡ true → g q ≡ largest cost (successors_at code) (length code) q

module _ (l c : ℕ) (code : List ℕ) (ok : code_ok l c code ≡ true) where
  -- an instruction starts here
  abbrev pub Start : ℕ → Type 0
  Start i = among i (from code 0) ≡ true

  checked : (i : ℕ) → Start i → instr_ok l c code i ≡ true
  unfolding starts
  checked i h = start_ok l c code ok i h

  pub start_known : (i : ℕ) → Start i → known (byte code i) ≡ true
  unfolding instr_ok
  start_known i h = ((and-eq-true_iff (known (byte code i)) _).0 (checked i h)).0

  pub start_whole : (i : ℕ) → Start i → behind code i ≤ length code
  unfolding instr_ok
  start_whole i h =
      leb-true (behind code i) (length code)
      ((and-eq-true_iff (leb (behind code i) (length code)) _).0 ((and-eq-true_iff (known (byte code i)) _).0 (checked i h)).1).0

  -- the instructions from place i on pass check 11
  abbrev pub AllAhead : ℕ → Type 0
  AllAhead i = all (ahead_at code) (from code i) ≡ true

  module _ (i : ℕ) (start : Start i) where
    inside : i < length code
    inside = (from_within code 0 i start).1

    pub all-ahead : ahead_at code i ≡ true → AllAhead (behind code i) → AllAhead i
    all-ahead e h = rw (from_step code i inside, e) h

    module _ (a : AllAhead i) where
      -- from each start on from here
      goes : (q : ℕ) → among q (from code i) ≡ true → Onward Start q (node_at code q)
      unfolding node_at starts
      goes q h =
          let s = from_onward code 0 i q start h in
          let lt = (from_within code i q h).1 in
          node_onward Start q (after code q) (omega (arith, after_step code q lt, size_some (byte code q))) (fetch code q)
          (all_among (ahead_at code) (from code i) q a h) (lands l c code ok q s)

      goes_to : (q j : ℕ) → among q (from code i) ≡ true → among j (successors_at code q) ≡ true → (q < j) × Start j
      goes_to q j h g = each_among (λ r. (q < r) × Start r) (successors_at code q) j (goes q h).each g

      pub forward : Forward (successors_at code) (length code) (λ q. among q (from code i) ≡ true)
      forward =
          record {
            below = λ q h. (from_within code i q h).1;
            onward = λ q j h g.
                let t = goes_to q j h g in
                from_later code 0 i j start t.1 (omega (arith, t.0, (from_within code i q h).0));
            ahead = λ q j h g. (goes_to q j h g).0;
          }

      pub steps_some : (q : ℕ) → among q (from code i) ≡ true → 1 ≤ (node_at code q).steps
      steps_some q h = (goes q h).some

      -- ── the pass from the back ──

      -- a successor is one of the later starts
      successor_later : (j : ℕ) → among j (successors_at code i) ≡ true → among j (from code (behind code i)) ≡ true
      successor_later j g = by (split code i j inside (forward.onward i j (first_in code i inside) g))
        where
          by : (j ≡ i) ⊎ (among j (from code (behind code i)) ≡ true) → among j (from code (behind code i)) ≡ true
          by (inl e) = absurd (omega (arith, e, forward.ahead i j (first_in code i inside) g))
          by (inr h) = h

      -- where the figures of all later starts are right
      module _ (cost g : ℕ → ℕ) (right : Right code cost (behind code i) g) where
        -- so is that of the start before them
        pub right_here : cost i + most g (successors_at code i) ≡ largest cost (successors_at code) (length code) i
        right_here =
            ap (λ (x : ℕ). cost i + x)
            (most_same g (largest cost (successors_at code) (length code)) (successors_at code i) (λ j h. right j (successor_later j h)))
            ∙ sym (unfolded cost (successors_at code) (length code) (λ q. among q (from code i) ≡ true) forward (length code) i (first_in code i inside) (omega arith))

        -- with it, all from there on are
        pub right_with : (g' : ℕ → ℕ) → g' i ≡ largest cost (successors_at code) (length code) i → ((q : ℕ) → (i ≡ q → ⊥) → g' q ≡ g q) → Right code cost i g'
        right_with g' here others q h = by (split code i q inside h)
          where
            by : (q ≡ i) ⊎ (among q (from code (behind code i)) ≡ true) → g' q ≡ largest cost (successors_at code) (length code) q
            by (inl e) = rw e here
            by (inr k) = others q (λ p. omega (arith, p, (from_within code (behind code i) q k).0, size_some (byte code i))) ∙ right q k
