-- Lists from a place on. Assumes nothing.
use mathlib.Core.List.{List, ◌∷◌}
use mathlib.Core.Path.{◌≡◌, sym, ap, ◌∙◌}
use Prim.Native.Nat.{ℕ, ◌+◌, ◌<◌}
use native.Mathlib.Nat.{add-zero}
use native.Mathlib.Omega.{arith}
use lib.ListN.{length, get_or, drop, length-drop}
use lib.Seq.{get_or-drop, drop-drop}

-- y stands at k, and ys behind it
module _ {A : Type 0} (xs : List A) (k : ℕ) {y : A} {ys : List A} (e : drop k xs ≡ y ∷ ys) where
  pub at_within : k < length xs
  at_within = let f = sym (length-drop k xs) ∙ ap length e in omega arith

  pub at_is : (d : A) → get_or xs k d ≡ y
  at_is d = ap (λ (i : ℕ). get_or xs i d) (sym (add-zero k)) ∙ sym (get_or-drop k xs 0 d) ∙ ap (λ (zs : List A). get_or zs 0 d) e

  pub behind_is : drop (k + 1) xs ≡ ys
  behind_is = sym (drop-drop 1 k xs) ∙ ap (drop 1) e
