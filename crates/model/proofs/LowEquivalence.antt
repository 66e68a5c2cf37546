-- Two stores that an observer can't tell apart, and what keeps them so.
use Rattle.std.specs.Prelude.{None, Some}
use mathlib.Core.Bool.{Bool, false}
use mathlib.Core.Logic.{◌≢◌}
use mathlib.Core.Path.{◌≡◌, refl, sym, ap, ◌∙◌, subst}
use Prim.Native.Nat.{ℕ, ◌<◌}
use native.Mathlib.Omega.{arith}
use lib.ListN.{length, set, length-set}
use lib.Seq.{get_or-set_same}
use Rattle.labels.specs.declared.Label.{Label}
use Rattle.model.specs.State.{Control, Store, Program, Outcome, at, shown, Slot}
use Rattle.model.specs.declared.Account.{Account}
use Rattle.model.specs.Effects.{Next, go, stop, holding}
use Rattle.model.specs.declared.Kind.{Kind}
use Rattle.model.specs.declared.Datum.{Datum}
use Rattle.model.specs.declared.Contents.{Contents}
use Rattle.model.specs.declared.Contents.TheVariants.{Value as Holds, Fault}
use Rattle.model.specs.declared.Ending.{Ending}
use Rattle.model.specs.declared.Ending.TheVariants.{Result, Fault as Faulted, Spent}
use Rattle.model.proofs.Tests.{cond_one}
use Rattle.model.proofs.Places.{after_sets}
use Rattle.model.proofs.Effects.{account_of, store_of}
use Rattle.model.proofs.Kept.{shell, Fresh, Kept}
use Rattle.model.proofs.Plans.{Points, All, all_wider, points_wider, Reach}

-- ── the relation ──

-- A place that holds a record in both stores, of one kind and label. What LABOF tells of a hidden record is the same in both.
abbrev pub Twin : Store → Store → ℕ → Type 0
Twin σ τ p = (shell (at σ p) ≢ None) × (shell (at σ p) ≡ shell (at τ p))

-- a datum that both runs may hold: a handle is to a twin
abbrev pub Shared : Store → Store → Datum → Type 0
Shared σ τ d = Points (Twin σ τ) d

abbrev pub SharedContents : Store → Store → Contents → Type 0
SharedContents σ τ (Holds d) = Shared σ τ d
SharedContents σ τ (Fault code n) = Unit {0}

abbrev pub SharedSlot : Store → Store → Slot → Type 0
SharedSlot σ τ None = Unit {0}
SharedSlot σ τ (Some x) = SharedContents σ τ x.contents

abbrev pub SharedEnding : Store → Store → Ending → Type 0
SharedEnding σ τ (Result d) = Shared σ τ d
SharedEnding σ τ (Faulted code n) = Unit {0}
SharedEnding σ τ Spent = Unit {0}

-- Two stores in which an observer of the labels in Low sees the same
pub record LowEquivalent (P : Program) (Low : Label → Bool) (σ τ : Store) : Type 0 where
  pub alike : (p : ℕ) → shown Low (at σ p) ≡ shown Low (at τ p)
  -- handles in what is shown, and those of the input records, are to twins
  pub shared : (p : ℕ) → SharedSlot σ τ (shown Low (at σ p))
  pub inputs : All (Twin σ τ) P.inputs
  pub sized : length σ ≡ length τ

-- How two runs end: alike, with account and ending equal; or apart, each with a final label that the observer doesn't see.
pub data Ends (Low : Label → Bool) (σ τ : Store) : Ending → Account → Ending → Account → Type 0 where
  together : {e : Ending} {a : Account} → SharedEnding σ τ e → Ends Low σ τ e a e a
  apart : {e f : Ending} {a b : Account} → Low a.label ≡ false → Low b.label ≡ false → Ends Low σ τ e a f b

pub record LowOutcomes (P : Program) (Low : Label → Bool) (o q : Outcome) : Type 0 where
  pub stores : LowEquivalent P Low o.store q.store
  pub ends : Ends Low o.store q.store o.ending o.account q.ending q.account

-- The same between two runs: in lockstep, until each goes on alone under a label that the observer doesn't see
pub data LowNext (P : Program) (Low : Label → Bool) : Next → Next → Type 0 where
  goes : {c : Control} {a : Account} {σ τ : Store} → Reach (Twin σ τ) c → LowEquivalent P Low σ τ → LowNext P Low (go c a σ) (go c a τ)
  stops : {e : Ending} {a : Account} {σ τ : Store} → SharedEnding σ τ e → LowEquivalent P Low σ τ → LowNext P Low (stop e a σ) (stop e a τ)
  parts : {x y : Next} → Low (account_of x).label ≡ false → Low (account_of y).label ≡ false → LowEquivalent P Low (store_of x) (store_of y)
      → LowNext P Low x y

-- ── twins stay twins ──

abbrev pub Grows : Store → Store → Store → Store → Type 0
Grows σ τ σ' τ' = (p : ℕ) → Twin σ τ p → Twin σ' τ' p

pub shared_grows : (σ τ σ' τ' : Store) → Grows σ τ σ' τ' → (x : Slot) → SharedSlot σ τ x → SharedSlot σ' τ' x
shared_grows σ τ σ' τ' g None h = tt
shared_grows σ τ σ' τ' g (Some x) h = contents x.contents h
  where
    contents : (y : Contents) → SharedContents σ τ y → SharedContents σ' τ' y
    contents (Holds d) h = points_wider (Twin σ τ) (Twin σ' τ') g d h
    contents (Fault code n) h = tt

pub shell_full : (h : Kind) (l : Label) (x : Contents) → shell (holding h l x) ≢ None
unfolding shell
shell_full h l x e = let z : ◌≡◌ {A = ℕ} 0 1 = cc in omega arith

shell_alike : (h : Kind) (l : Label) (x y : Contents) → shell (holding h l x) ≡ shell (holding h l y)
unfolding shell
shell_alike h l x y = refl

-- by a store of two records that differ at most in their contents
pub grows_set : (σ τ : Store) (p : ℕ) (h : Kind) (l : Label) (x y : Contents) → length σ ≡ length τ
    → Grows σ τ (set σ p (holding h l x)) (set τ p (holding h l y))
grows_set σ τ p h l x y sized =
    after_sets (λ q u v. Twin σ τ q → (shell u ≢ None) × (shell u ≡ shell v)) σ τ p (holding h l x) (holding h l y) None sized
    (λ q _ t. t) (λ _. (shell_full h l x, shell_alike h l x y)) (λ t. t)

pub place_twin : (σ τ : Store) (p : ℕ) (h : Kind) (l : Label) (x y : Contents) → p < length σ → p < length τ
    → Twin (set σ p (holding h l x)) (set τ p (holding h l y)) p
place_twin σ τ p h l x y i j =
    rw (get_or-set_same σ p (holding h l x) None i, get_or-set_same τ p (holding h l y) None j) (shell_full h l x, shell_alike h l x y)

module _ (P : Program) (Low : Label → Bool) where
  -- by two runs, each on its own
  pub grows_kept : (a b a' b' : Account) (σ τ σ' τ' : Store) → Fresh a σ → Fresh b τ → Kept Low a σ a' σ' → Kept Low b τ b' τ' → Grows σ τ σ' τ'
  unfolding shell
  grows_kept a b a' b' σ τ σ' τ' f g k m p (full, same) = (λ e. full (x ∙ e), sym x ∙ same ∙ y)
    where
      x : shell (at σ p) ≡ shell (at σ' p)
      x = k.shells p (λ i. full (ap shell (f p i).1))

      y : shell (at τ p) ≡ shell (at τ' p)
      y = m.shells p (λ i. full (same ∙ ap shell (g p i).1))

  -- ── stores stay equivalent ──

  -- two runs that each go on alone
  pub equivalent_apart : (a b a' b' : Account) (σ τ σ' τ' : Store) → Fresh a σ → Fresh b τ → Kept Low a σ a' σ' → Kept Low b τ b' τ'
      → Low a.label ≡ false → Low b.label ≡ false → LowEquivalent P Low σ τ → LowEquivalent P Low σ' τ'
  equivalent_apart a b a' b' σ τ σ' τ' f g k m u v s =
      record {
        alike = λ p. sym (k.hides u p) ∙ s.alike p ∙ m.hides v p;
        shared = λ p. subst (SharedSlot σ' τ') (k.hides u p) (shared_grows σ τ σ' τ' gr (shown Low (at σ p)) (s.shared p));
        inputs = all_wider (Twin σ τ) (Twin σ' τ') gr P.inputs s.inputs;
        sized = sym k.sized ∙ s.sized ∙ m.sized;
      }
    where
      gr : Grows σ τ σ' τ'
      gr = grows_kept a b a' b' σ τ σ' τ' f g k m

  -- a store of two records that the observer can't tell apart
  pub equivalent_set : (σ τ : Store) (p : ℕ) (h : Kind) (l : Label) (x y : Contents) → LowEquivalent P Low σ τ
      → shown Low (holding h l x) ≡ shown Low (holding h l y)
      → SharedSlot (set σ p (holding h l x)) (set τ p (holding h l y)) (shown Low (holding h l x))
      → LowEquivalent P Low (set σ p (holding h l x)) (set τ p (holding h l y))
  equivalent_set σ τ p h l x y s e o =
      record {
        alike = λ q. (both q).0;
        shared = λ q. (both q).1;
        inputs = all_wider (Twin σ τ) (Twin σ' τ') gr P.inputs s.inputs;
        sized = length-set σ p (holding h l x) ∙ s.sized ∙ sym (length-set τ p (holding h l y));
      }
    where
      σ' : Store
      σ' = set σ p (holding h l x)

      τ' : Store
      τ' = set τ p (holding h l y)

      gr : Grows σ τ σ' τ'
      gr = grows_set σ τ p h l x y s.sized

      old : (q : ℕ) → (shown Low (at σ q) ≡ shown Low (at τ q)) × SharedSlot σ' τ' (shown Low (at σ q))
      old q = (s.alike q, shared_grows σ τ σ' τ' gr (shown Low (at σ q)) (s.shared q))

      both : (q : ℕ) → (shown Low (at σ' q) ≡ shown Low (at τ' q)) × SharedSlot σ' τ' (shown Low (at σ' q))
      both = after_sets (λ q u v. (shown Low u ≡ shown Low v) × SharedSlot σ' τ' (shown Low u)) σ τ p (holding h l x) (holding h l y) None
          s.sized (λ q _. old q) (e, o) (old p)

  pub shared_visible : (σ τ : Store) (h : Kind) (l : Label) (x : Contents) → SharedContents σ τ x → SharedSlot σ τ (shown Low (holding h l x))
  unfolding shown
  shared_visible σ τ h l x o = cond_one (SharedSlot σ τ) (Low l) (λ _. o) (λ _. tt)
