-- Check 6, one record at a time.
use mathlib.Core.Bool.{false}
use mathlib.Core.List.{List}
use mathlib.Core.Path.{◌≡◌, ap}
use Prim.Native.Nat.{ℕ, suc, ◌+◌, ◌-◌, ◌*◌, ◌≤◌, ◌<◌}
use native.Mathlib.Omega.{arith}
use borrow.Author.Tests.{lt-ltb, le-ltb, le-leb, lt-leb}
use Rattle.model.specs.Decoding.{byte}
use Rattle.file_sections.specs.Checks.{records_ok}

-- of n records, those from the i-th on
pub left : (l : ℕ) (bs : List ℕ) (n i : ℕ) → i < n → records_ok l bs (n - i) (6 * i) ≡ records_ok l bs (suc (n - (i + 1))) (6 * i)
left l bs n i h = ap (λ (k : ℕ). records_ok l bs k (6 * i)) (let e : n - i ≡ suc (n - (i + 1)) = omega arith in e)

module _ (l : ℕ) (bs : List ℕ) (n i : ℕ) where
  pub kind_stops : 1 < byte bs i → records_ok l bs (suc n) i ≡ false
  unfolding records_ok
  kind_stops k = rw (lt-leb (byte bs i) 1 k)

  pub label_stops : byte bs i ≤ 1 → l ≤ byte bs (i + 1) → records_ok l bs (suc n) i ≡ false
  unfolding records_ok
  label_stops k h = rw (le-leb (byte bs i) 1 k, le-ltb (byte bs (i + 1)) l h)

  pub next_record : byte bs i ≤ 1 → byte bs (i + 1) < l → records_ok l bs (suc n) i ≡ records_ok l bs n (i + 6)
  unfolding records_ok
  next_record k h = rw (le-leb (byte bs i) 1 k, lt-ltb (byte bs (i + 1)) l h)
