-- The end of a job: an observer sees of two stores what it saw, the handles that lead nowhere being faults in both.
use Rattle.std.specs.Prelude.{None, Some}
use mathlib.Core.Bool.{Bool, true, false}
use mathlib.Core.List.{List, [], ◌∷◌}
use mathlib.Core.Path.{◌≡◌, refl, sym, ap, ◌∙◌, subst}
use Prim.Native.Nat.{ℕ, suc, ◌+◌, ◌≤◌, ◌<◌}
use native.Mathlib.Omega.{arith}
use lib.Dec.{leb, ltb}
use borrow.Author.Tests.{leb-false}
use lib.ListN.{length}
use Rattle.labels.specs.declared.Label.{Label}
use Rattle.model.specs.State.{Store, Program, at, shown, Slot}
use Rattle.model.specs.Inputs.{Input, handles}
use Rattle.model.specs.declared.Datum.{Datum}
use Rattle.model.specs.declared.Datum.TheVariants.{Number, Label as Labelled, Handle}
use Rattle.model.specs.declared.Contents.{Contents}
use Rattle.model.specs.declared.Contents.TheVariants.{Value as Holds, Fault}
use Rattle.model.proofs.Tests.{cond_one}
use Rattle.model.proofs.Kept.{shell}
use Rattle.model.proofs.Plans.{All}
use Rattle.model.proofs.LowEquivalence.{Twin, SharedContents, SharedSlot, LowEquivalent}
use Rattle.day_jobs.specs.JobEnd.{kept_datum, kept_contents, kept_slot, end_slot, end_job}
use Rattle.day_jobs.proofs.JobEnd.{length_end, end_kept, end_at}

-- ── what an observer sees ──

-- a record keeps its kind and label
kept_shell : (c : ℕ) (x : Slot) → shell (kept_slot c x) ≡ shell x
unfolding shell kept_slot
kept_shell c None = refl
kept_shell c (Some r) = refl

kept_shown : (Low : Label → Bool) (c : ℕ) (x : Slot) → shown Low (kept_slot c x) ≡ kept_slot c (shown Low x)
unfolding shown kept_slot
kept_shown Low c None = refl
kept_shown Low c (Some r) = test (Low r.label) refl
  where
    test : (t : Bool) → Low r.label ≡ t → shown Low (kept_slot c (Some r)) ≡ kept_slot c (shown Low (Some r))
    test true e = rw e
    test false e = rw e

pub end_shown : (Low : Label → Bool) (c p : ℕ) (x : Slot) → shown Low (end_slot c p x) ≡ end_slot c p (shown Low x)
unfolding end_slot shown
end_shown Low c p x = test (ltb p c) refl
  where
    test : (t : Bool) → ltb p c ≡ t → shown Low (end_slot c p x) ≡ end_slot c p (shown Low x)
    test true e = rw e (kept_shown Low c x)
    test false e = rw e

-- ── two stores ──

module _ (c : ℕ) (σ τ : Store) where
  -- inputs that are twins stay twins
  end_twin : (p : ℕ) → p < c → Twin σ τ p → Twin (end_job c σ) (end_job c τ) p
  end_twin p lt (full, same) = (λ e. full (sym (one σ) ∙ e), one σ ∙ same ∙ sym (one τ))
    where
      one : (ρ : Store) → shell (at (end_job c ρ) p) ≡ shell (at ρ p)
      one ρ = ap shell (end_at c ρ p ∙ end_kept c p (at ρ p) lt) ∙ kept_shell c (at ρ p)

  -- a handle that is kept is to an input
  datum_shared : (d : Datum) → SharedContents σ τ (Holds d) → SharedContents (end_job c σ) (end_job c τ) (kept_datum c d)
  unfolding kept_datum
  datum_shared (Number n) h = tt
  datum_shared (Labelled l) h = tt
  datum_shared (Handle k p) h =
      cond_one (SharedContents (end_job c σ) (end_job c τ)) (leb c p) (λ _. tt) (λ e. end_twin p (leb-false c p e) h)

  contents_shared : (x : Contents) → SharedContents σ τ x → SharedContents (end_job c σ) (end_job c τ) (kept_contents c x)
  unfolding kept_contents
  contents_shared (Holds d) h = datum_shared d h
  contents_shared (Fault code n) h = tt

  slot_shared : (x : Slot) → SharedSlot σ τ x → SharedSlot (end_job c σ) (end_job c τ) (kept_slot c x)
  unfolding kept_slot
  slot_shared None h = tt
  slot_shared (Some r) h = contents_shared r.contents h

  end_shared : (p : ℕ) (x : Slot) → SharedSlot σ τ x → SharedSlot (end_job c σ) (end_job c τ) (end_slot c p x)
  unfolding end_slot
  end_shared p x h = cond_one (SharedSlot (end_job c σ) (end_job c τ)) (ltb p c) (λ _. slot_shared x h) (λ _. tt)

  -- the inputs' handles are to places below c
  end_handles : (k : ℕ) (xs : List Input) → k + length xs ≤ c → All (Twin σ τ) (handles k xs) → All (Twin (end_job c σ) (end_job c τ)) (handles k xs)
  unfolding handles
  end_handles k [] le h = tt
  end_handles k (x ∷ xs) le h = (end_twin k (omega arith) h.0, end_handles (suc k) xs (omega arith) h.1)

  -- Stores that an observer can't tell apart are still so when the job has ended.
  pub end_equivalent : (P Q : Program) (Low : Label → Bool) (xs : List Input) → P.inputs ≡ handles 0 xs → Q.inputs ≡ handles 0 xs → length xs ≡ c
      → LowEquivalent P Low σ τ → LowEquivalent Q Low (end_job c σ) (end_job c τ)
  end_equivalent P Q Low xs p q n s =
      record {
        alike = λ i. seen σ i ∙ ap (end_slot c i) (s.alike i) ∙ sym (seen τ i);
        shared = λ i. subst (SharedSlot (end_job c σ) (end_job c τ)) (sym (seen σ i)) (end_shared i (shown Low (at σ i)) (s.shared i));
        inputs = rw q (end_handles 0 xs (omega arith) (rw p at s.inputs));
        sized = length_end c 0 σ ∙ s.sized ∙ sym (length_end c 0 τ);
      }
    where
      seen : (ρ : Store) (i : ℕ) → shown Low (at (end_job c ρ) i) ≡ end_slot c i (shown Low (at ρ i))
      seen ρ i = ap (shown Low) (end_at c ρ i) ∙ end_shown Low c i (at ρ i)

-- equivalence asks of a program no more than its inputs
pub other_program : (P Q : Program) (Low : Label → Bool) (σ τ : Store) → P.inputs ≡ Q.inputs → LowEquivalent P Low σ τ → LowEquivalent Q Low σ τ
other_program P Q Low σ τ e s = record { alike = s.alike; shared = s.shared; inputs = rw e at s.inputs; sized = s.sized }
