-- What the code finds of a file's labels and input records.
use Rattle.std.proofs.Common.{◌≡◌, ℕ, zero, suc, ◌+◌, ◌*◌, ◌<◌, ◌≤◌, Bool, true, false, cond, ltb, ◌≢◌, List, get_or, sym, refl, ap, ◌∙◌, add-zero, zero-add, arith, ltb-false, ltb-true, le-ltb, lt-ltb}
use Rattle.labels.specs.declared.Label.{Label}
use Rattle.model.specs.declared.Kind.TheVariants.{Reference}
use Rattle.model.specs.declared.Value.{Value}
use Rattle.model.specs.declared.Datum.{Datum}
use Rattle.model.specs.declared.Datum.TheVariants.{Number, Handle}
use Rattle.model.specs.State.{value, number}
use Rattle.model.specs.Decoding.{byte}
use Rattle.model.specs.Inputs.{kind_of, inputs, handles}
use Rattle.model.specs.FileLabels.{label_in}
use Rattle.operands.specs.Program.{count, program}

-- what INPUT pushes
unfoldable pub input_at : List ℕ → ℕ → Datum
input_at rs i = cond (ltb i (count rs)) (Handle (kind_of (byte rs (6 * i))) i) (Number 0)

input_handle : (ls : ℕ → Label) (bs : List ℕ) (n b p i : ℕ) → i < n
    → get_or (handles p (inputs ls bs n b)) i (number 0) ≡ value (Handle (kind_of (byte bs (b + 6 * i))) (p + i))
unfolding handles inputs
input_handle ls bs zero b p i h = absurd (omega arith)
input_handle ls bs (suc n) b p zero h = rw (add-zero b, add-zero p)
input_handle ls bs (suc n) b p (suc i) h =
    let e : b + 6 + 6 * i ≡ b + 6 * suc i = omega arith in
    let f : suc p + i ≡ p + suc i = omega arith in
    input_handle ls bs n (b + 6) (suc p) i (omega arith) ∙ ap (λ (j : ℕ). value (Handle (kind_of (byte bs j)) (suc p + i))) e ∙ ap (λ (j : ℕ). value (Handle (kind_of (byte bs (b + 6 * suc i))) j)) f

input_none : (ls : ℕ → Label) (bs : List ℕ) (n b p i : ℕ) → n ≤ i → get_or (handles p (inputs ls bs n b)) i (number 0) ≡ number 0
unfolding handles inputs
input_none ls bs zero b p i h = refl
input_none ls bs (suc n) b p zero h = absurd (omega arith)
input_none ls bs (suc n) b p (suc i) h = input_none ls bs n (b + 6) (suc p) i (omega arith)

pub kind_other : (n : ℕ) → n ≢ 0 → Reference ≡ kind_of n
kind_other zero h = absurd (h refl)
kind_other (suc n) h = refl

input_in : (rs : List ℕ) (i : ℕ) → i < count rs → Handle (kind_of (byte rs (6 * i))) i ≡ input_at rs i
unfolding input_at
input_in rs i h = rw (lt-ltb i (count rs) h)

input_out : (rs : List ℕ) (i : ℕ) → count rs ≤ i → Number 0 ≡ input_at rs i
unfolding input_at
input_out rs i h = rw (le-ltb i (count rs) h)

pub input-at : (code : List ℕ) (ls : List Label) (rs : List ℕ) (i : ℕ) → input_at rs i ≡ (get_or (program code ls rs).inputs i (number 0)).datum
unfolding program
input-at code ls rs i = test (ltb i (count rs)) refl where
  test : (b : Bool) → ltb i (count rs) ≡ b → input_at rs i ≡ (get_or (handles 0 (inputs (label_in ls) rs (count rs) 0)) i (number 0)).datum
  test true e =
      sym (input_in rs i (ltb-true i (count rs) e)) ∙ ap (λ (v : Value). v.datum) (sym (rw (zero-add (6 * i), zero-add i) at (input_handle (label_in ls) rs (count rs) 0 0 i (ltb-true i (count rs) e))))
  test false e =
      sym (input_out rs i (ltb-false i (count rs) e)) ∙ ap (λ (v : Value). v.datum) (sym (input_none (label_in ls) rs (count rs) 0 0 i (ltb-false i (count rs) e)))
