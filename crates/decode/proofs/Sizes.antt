-- An instruction is short, so that no sum of a place and a size wraps; most opcodes have no operands.
use mathlib.Core.Path.{◌≡◌, refl, ◌∙◌}
use mathlib.Core.List.{List, [], ◌∷◌}
use Prim.Native.Nat.{ℕ, zero, suc, ◌+◌, ◌≤◌, zero-le}
use native.Mathlib.Omega.{arith}
use lib.ListN.{get_or, set}
use lib.Seq.{get_or-set_other}
use Rattle.model.specs.Decoding.{operand_bytes, size}

abbrev sum : List ℕ → ℕ
sum [] = 0
sum (x ∷ xs) = x + sum xs

at_most_sum : (xs : List ℕ) (i : ℕ) → get_or xs i 0 ≤ sum xs
at_most_sum [] i = zero-le
at_most_sum (x ∷ xs) zero = omega arith
at_most_sum (x ∷ xs) (suc i) = omega (arith, at_most_sum xs i)

pub size_short : (op : ℕ) → size op ≤ 20
unfolding size operand_bytes
size_short op = omega (arith, at_most_sum operand_bytes op)

-- what the arms of a match leave to its default, the last arm's opcode first
abbrev pub NotAmong : List ℕ → ℕ → Type 0
NotAmong [] op = Unit {0}
NotAmong (k ∷ ks) op = NotAmong ks op × (op ≡ k → ⊥)

module _ {A : Type 0} (none : A) where
  abbrev pub cleared : List ℕ → List A → List A
  cleared [] xs = xs
  cleared (k ∷ ks) xs = set (cleared ks xs) k none

  pub elsewhere : (ks : List ℕ) (xs : List A) (i : ℕ) → NotAmong ks i → get_or (cleared ks xs) i none ≡ get_or xs i none
  elsewhere [] xs i r = refl
  elsewhere (k ∷ ks) xs i r = get_or-set_other (cleared ks xs) k i none none r.1 ∙ elsewhere ks xs i r.0

-- the opcodes with operands: without theirs, the operand bytes sum to 0
abbrev with_operands : List ℕ
with_operands = 29 ∷ 26 ∷ 25 ∷ 11 ∷ 10 ∷ 4 ∷ 3 ∷ 2 ∷ 1 ∷ []

pub size_else : (op : ℕ) → NotAmong with_operands op → size op ≡ 1
unfolding size operand_bytes
size_else op r = omega (arith, at_most_sum (cleared 0 with_operands operand_bytes) op, elsewhere 0 with_operands operand_bytes op r)
