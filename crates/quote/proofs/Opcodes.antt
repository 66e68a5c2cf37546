-- What an instruction's node is by the opcode. Assumes nothing.
use mathlib.Core.Bool.{true}
use mathlib.Core.List.{List, [], ◌∷◌, map}
use mathlib.Core.Path.{◌≡◌, refl, sym, ap, ◌∙◌}
use Prim.Native.Nat.{ℕ, zero, suc, ◌<◌}
use native.Mathlib.Omega.{arith}
use borrow.Author.Tests.{ltb-true}
use lib.ListN.{length, get_or, set, replicate}
use lib.Seq.{get_or-set_other}
use Rattle.model.specs.Decoding.{known, instrs}
use Rattle.model.specs.declared.Instr.{Instr}
use Rattle.model.specs.declared.Instr.TheVariants.{End}
use Rattle.model.proofs.Places.{blank}
use Rattle.quote.specs.Quoting.{Node, goes_on, node}

-- an opcode that is none of these
abbrev pub NotAmong : List ℕ → ℕ → Type 0
NotAmong [] op = Unit {0}
NotAmong (k ∷ ks) op = NotAmong ks op × (op ≡ k → ⊥)

module _ {A : Type 0} (none : A) where
  abbrev cleared : List ℕ → List A → List A
  cleared [] xs = xs
  cleared (k ∷ ks) xs = set (cleared ks xs) k none

  elsewhere : (ks : List ℕ) (xs : List A) (i : ℕ) → NotAmong ks i → get_or (cleared ks xs) i none ≡ get_or xs i none
  elsewhere [] xs i r = refl
  elsewhere (k ∷ ks) xs i r = get_or-set_other (cleared ks xs) k i none none r.1 ∙ elsewhere ks xs i r.0

-- a function of the instructions, at one of the opcodes
at_opcode : {A : Type 0} (f : Instr → A) (d : A) (xs : List Instr) (op : ℕ) → op < length xs → get_or (map f xs) op d ≡ f (get_or xs op End)
at_opcode f d [] op h = absurd (omega arith)
at_opcode f d (x ∷ xs) zero h = refl
at_opcode f d (x ∷ xs) (suc op) h = at_opcode f d xs op (omega arith)

module _ (code : List ℕ) (i op : ℕ) (k : known op ≡ true) where
  -- what it is for all opcodes but some, which are cleared, it is for one that is not among these
  unless : {A : Type 0} (f : Instr → A) (d : A) (ks : List ℕ) → cleared d ks (map f (instrs code i)) ≡ replicate 30 d → NotAmong ks op
      → d ≡ f (get_or (instrs code i) op End)
  unfolding known instrs
  unless {A = A} f d ks e r =
      sym (blank 30 op d) ∙ ap (λ (xs : List A). get_or xs op d) (sym e) ∙ elsewhere d ks (map f (instrs code i)) op r
      ∙ at_opcode f d (instrs code i) op (ltb-true op 30 k)

  module _ (j next : ℕ) where
    abbrev here : Node
    here = node j next (get_or (instrs code i) op End)

    -- it costs a step and goes on
    pub plain_else : NotAmong (28 ∷ 26 ∷ 25 ∷ 22 ∷ 19 ∷ 11 ∷ 10 ∷ 0 ∷ []) op → goes_on next ≡ here
    unfolding node instrs
    plain_else r = unless (node j next) (goes_on next) (28 ∷ 26 ∷ 25 ∷ 22 ∷ 19 ∷ 11 ∷ 10 ∷ 0 ∷ []) refl r
