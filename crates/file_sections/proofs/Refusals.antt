-- The answer with the number of a refusal.
use mathlib.Core.Path.{◌≡◌, refl}
use Prim.Native.Nat.{ℕ, zero, suc, ◌≤◌}
use native.Mathlib.Omega.{arith}
use Rattle.std.specs.Prelude.{Result, Ok, Err}
use Rattle.file_sections.specs.declared.Refusal.{Refusal}
use Rattle.file_sections.specs.Refusals.{refusal_number, refusal_of, answer}

-- the numbers 1 to 11 are those of refusals
pub number_of : (n : ℕ) → 1 ≤ n → n ≤ 11 → refusal_number (refusal_of n) ≡ n
number_of zero h k = absurd (omega arith)
number_of (suc zero) h k = refl
number_of (suc (suc zero)) h k = refl
number_of (suc (suc (suc zero))) h k = refl
number_of (suc (suc (suc (suc zero)))) h k = refl
number_of (suc (suc (suc (suc (suc zero))))) h k = refl
number_of (suc (suc (suc (suc (suc (suc zero)))))) h k = refl
number_of (suc (suc (suc (suc (suc (suc (suc zero))))))) h k = refl
number_of (suc (suc (suc (suc (suc (suc (suc (suc zero)))))))) h k = refl
number_of (suc (suc (suc (suc (suc (suc (suc (suc (suc zero))))))))) h k = refl
number_of (suc (suc (suc (suc (suc (suc (suc (suc (suc (suc zero)))))))))) h k = refl
number_of (suc (suc (suc (suc (suc (suc (suc (suc (suc (suc (suc zero))))))))))) h k = refl
number_of (suc (suc (suc (suc (suc (suc (suc (suc (suc (suc (suc (suc n)))))))))))) h k = absurd (omega arith)

module _ {A : Type 0} where
  -- an answer that is no refusal has the number 0, and gives what is there
  pub answered : (n : ℕ) {a b : A} → Ok b ≡ answer n a → (n ≡ 0) × (b ≡ a)
  answered zero e = (refl, cc)
  answered (suc n) {a} {b} e = absurd (cc)

  -- a refusal has the number that it is the answer to
  pub refused : (n : ℕ) (a : A) {r : Refusal} → n ≤ 11 → Err r ≡ answer n a → (refusal_number r ≡ n) × (1 ≤ n)
  refused zero a k e = absurd (cc)
  refused (suc n) a {r} k e =
      let same : r ≡ refusal_of (suc n) = cc in
      (rw same (number_of (suc n) (omega arith) k), omega arith)

  -- an answer as a number: 0 where nothing stands in the way, else that of the refusal
  abbrev pub told : Result A Refusal → ℕ
  told (Ok a) = 0
  told (Err r) = refusal_number r

  pub answer-number : (n : ℕ) (a : A) → n ≤ 11 → told (answer n a) ≡ n
  answer-number zero a k = refl
  answer-number (suc n) a k = number_of (suc n) (omega arith) k
