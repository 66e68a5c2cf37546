-- The starts of a code from one of them on: what is left of the sweep there. And the starts by their index.
use mathlib.Core.Bool.{true, true≢false}
use mathlib.Core.List.{List}
use mathlib.Core.Logic.{◌⊎◌, inl, inr}
use mathlib.Core.Path.{◌≡◌, sym, ap, ◌∙◌, subst}
use Prim.Native.Nat.{ℕ, zero, suc, ◌+◌, ◌≤◌, ◌<◌}
use native.Mathlib.Decide.{dec_lt}
use native.Mathlib.Omega.{arith}
use lib.ListN.{length, get_or}
use Rattle.model.specs.Decoding.{byte, size}
use Rattle.formulas.specs.Lists.{among}
use Rattle.code_check.proofs.Starts.{from, size_some, from_end, from_step}
use Rattle.quote.proofs.Largest.{among_first, among_later, which}

module _ (code : List ℕ) where
  -- where the instruction behind the one at i starts
  abbrev pub behind : ℕ → ℕ
  behind i = i + size (byte code i)

  later_in : (i q : ℕ) → i < length code → among q (from code (behind i)) ≡ true → among q (from code i) ≡ true
  later_in i q lt h = rw (from_step code i lt) (among_later q i (from code (behind i)) h)

  -- one of the starts from i on is i or one from behind it on
  pub split : (i q : ℕ) → i < length code → among q (from code i) ≡ true → (q ≡ i) ⊎ (among q (from code (behind i)) ≡ true)
  split i q lt h = which q i (from code (behind i)) (subst (λ (is : List ℕ). among q is ≡ true) (from_step code i lt) h)

  none_past : (i q : ℕ) → length code ≤ i → among q (from code i) ≡ true → ⊥
  none_past i q le h = true≢false (sym (subst (λ (is : List ℕ). among q is ≡ true) (from_end code i le) h))

  pub first_in : (i : ℕ) → i < length code → among i (from code i) ≡ true
  first_in i lt = rw (from_step code i lt) (among_first i (from code (behind i)))

  -- Induction on the starts from i on: q is one of them, so it is i, or there is one less to look at.
  module _ (C : ℕ → ℕ → Type 0) (here : (i : ℕ) → i < length code → C i i)
      (back : (i q : ℕ) → i < length code → among q (from code (behind i)) ≡ true → C (behind i) q → C i q) where
    along : (n i q : ℕ) → length code ≤ n + i → among q (from code i) ≡ true → C i q
    along zero i q le h = absurd (none_past i q (omega arith) h)
    along (suc n) i q le h = by (along n (behind i) q (omega (arith, size_some (byte code i)))) (dec_lt i (length code))
      where
        inside : i < length code → (among q (from code (behind i)) ≡ true → C (behind i) q) → (q ≡ i) ⊎ (among q (from code (behind i)) ≡ true) → C i q
        inside lt later (inl e) = subst (C i) (sym e) (here i lt)
        inside lt later (inr g) = back i q lt g (later g)

        by : (among q (from code (behind i)) ≡ true → C (behind i) q) → Dec (i < length code) → C i q
        by later (yes lt) = inside lt later (split i q lt h)
        by later (no ge) = absurd (none_past i q (omega arith) h)

    pub from_by : (i q : ℕ) → among q (from code i) ≡ true → C i q
    from_by i q h = along (length code) i q (omega arith) h

  pub from_within : (i q : ℕ) → among q (from code i) ≡ true → (i ≤ q) × (q < length code)
  from_within =
      from_by (λ i q. (i ≤ q) × (q < length code)) (λ i lt. (omega arith, lt))
      (λ i q lt h c. (omega (arith, c.0, size_some (byte code i)), c.1))

  -- the starts from q on are among those from i on
  pub from_onward : (i q r : ℕ) → among q (from code i) ≡ true → among r (from code q) ≡ true → among r (from code i) ≡ true
  from_onward i q r h g =
      from_by (λ i q. among r (from code q) ≡ true → among r (from code i) ≡ true) (λ i lt g. g) (λ i q lt h c g. later_in i r lt (c g)) i q h g

  -- and those that don't lie before q are these
  pub from_later : (i q r : ℕ) → among q (from code i) ≡ true → among r (from code i) ≡ true → q ≤ r → among r (from code q) ≡ true
  from_later i q r h g le =
      from_by (λ i q. among r (from code i) ≡ true → q ≤ r → among r (from code q) ≡ true) (λ i lt g le. g)
      (λ i q lt h c g le. beyond i q h c le (split i r lt g)) i q h g le
    where
      beyond : (i q : ℕ) → among q (from code (behind i)) ≡ true → (among r (from code (behind i)) ≡ true → q ≤ r → among r (from code q) ≡ true)
          → q ≤ r → (r ≡ i) ⊎ (among r (from code (behind i)) ≡ true) → among r (from code q) ≡ true
      beyond i q h c le (inl e) = absurd (omega (arith, le, e, (from_within (behind i) q h).0, size_some (byte code i)))
      beyond i q h c le (inr g) = c g le

  -- ── by their index ──

  -- the k-th of some starts; the code's end behind the last
  abbrev pub nth : List ℕ → ℕ → ℕ
  nth is k = get_or is k (length code)

  pub nth_first : (i : ℕ) → i ≤ length code → nth (from code i) 0 ≡ i
  nth_first i le = by (dec_lt i (length code))
    where
      by : Dec (i < length code) → nth (from code i) 0 ≡ i
      by (yes lt) = ap (λ (is : List ℕ). nth is 0) (from_step code i lt)
      by (no ge) = ap (λ (is : List ℕ). nth is 0) (from_end code i (omega arith)) ∙ omega arith

  -- it is a start, and the next one is behind it
  pub record Nth (is : List ℕ) (k : ℕ) : Type 0 where
    pub member : among (nth is k) is ≡ true
    pub next : nth is (suc k) ≡ behind (nth is k)

  -- no instruction of it is cut
  abbrev Whole : ℕ → Type 0
  Whole i = (q : ℕ) → among q (from code i) ≡ true → behind q ≤ length code

  some_in : (k i : ℕ) → k < length (from code i) → i < length code
  some_in k i lt = by (dec_lt i (length code))
    where
      by : Dec (i < length code) → i < length code
      by (yes h) = h
      by (no ge) = absurd (omega (arith, lt, ap length (from_end code i (omega arith))))

  pub nth_start : (k i : ℕ) → Whole i → k < length (from code i) → Nth (from code i) k
  nth_start zero i whole lt =
      let here = some_in 0 i lt in
      subst (λ (is : List ℕ). Nth is 0) (sym (from_step code i here))
      (record { member = among_first i (from code (behind i)); next = nth_first (behind i) (whole i (first_in i here)) })
  nth_start (suc k) i whole lt =
      let here = some_in (suc k) i lt in
      let rest = from code (behind i) in
      let later = nth_start k (behind i) (λ q h. whole q (later_in i q here h)) (omega (arith, lt, ap length (from_step code i here))) in
      subst (λ (is : List ℕ). Nth is (suc k)) (sym (from_step code i here))
      (record { member = among_later (nth rest k) i rest later.member; next = later.next })

  -- there are no more than bytes
  fewer : (n i : ℕ) → length code ≤ n + i → length (from code i) ≤ n
  fewer zero i le = omega (arith, ap length (from_end code i (omega arith)))
  fewer (suc n) i le = by (fewer n (behind i) (omega (arith, size_some (byte code i)))) (dec_lt i (length code))
    where
      by : length (from code (behind i)) ≤ n → Dec (i < length code) → length (from code i) ≤ suc n
      by h (yes lt) = omega (arith, h, ap length (from_step code i lt))
      by h (no ge) = omega (arith, ap length (from_end code i (omega arith)))

  pub starts_few : length (from code 0) ≤ length code
  starts_few = fewer (length code) 0 (omega arith)
