-- The end of a job, place by place.
use Rattle.std.specs.Prelude.{None, Some}
use mathlib.Core.Bool.{Bool, true, false, cond}
use mathlib.Core.List.{[], ◌∷◌}
use mathlib.Core.Path.{◌≡◌, refl, sym, ap, ◌∙◌}
use Prim.Native.Nat.{ℕ, zero, suc, ◌+◌, ◌≤◌, ◌<◌}
use native.Mathlib.Decide.{ℕ_discrete}
use native.Mathlib.Omega.{arith}
use lib.Dec.{ltb}
use lib.ListN.{length, set, length-set}
use lib.Seq.{ext_get_or, set-get_or, get_or-set_same, get_or-set_other}
use borrow.Author.Tests.{lt-ltb, le-ltb}
use Rattle.model.specs.State.{Store, at, Slot}
use Rattle.model.specs.declared.Record.{Record}
use Rattle.day_jobs.specs.JobEnd.{kept_contents, kept_slot, end_slot, end_from, end_job}

pub length_end : (c p : ℕ) (σ : Store) → length (end_from c p σ) ≡ length σ
unfolding end_from
length_end c p [] = refl
length_end c p (x ∷ σ) = ap suc (length_end c (suc p) σ)

pub end_kept : (c p : ℕ) (x : Slot) → p < c → end_slot c p x ≡ kept_slot c x
unfolding end_slot
end_kept c p x h = rw (lt-ltb p c h)

pub end_empty : (c p : ℕ) (x : Slot) → c ≤ p → end_slot c p x ≡ None
unfolding end_slot
end_empty c p x h = rw (le-ltb p c h)

-- where there is no record there is none afterwards
end_none : (c p : ℕ) → end_slot c p None ≡ None
unfolding end_slot kept_slot
end_none c p = same (ltb p c) None
  where
    same : (t : Bool) (x : Slot) → cond t x x ≡ x
    same true x = refl
    same false x = refl

end_from_at : (c p : ℕ) (σ : Store) (q : ℕ) → at (end_from c p σ) q ≡ end_slot c (p + q) (at σ q)
unfolding end_from
end_from_at c p [] q = sym (end_none c (p + q))
end_from_at c p (x ∷ σ) zero = ap (λ (k : ℕ). end_slot c k x) (let e : p ≡ p + 0 = omega arith in e)
end_from_at c p (x ∷ σ) (suc q) = end_from_at c (suc p) σ q ∙ ap (λ (k : ℕ). end_slot c k (at σ q)) (let e : suc p + q ≡ p + suc q = omega arith in e)

-- the slot at a place once the job has ended
pub end_at : (c : ℕ) (σ : Store) (q : ℕ) → at (end_job c σ) q ≡ end_slot c q (at σ q)
end_at c σ q = end_from_at c 0 σ q ∙ ap (λ (k : ℕ). end_slot c k (at σ q)) (let e : 0 + q ≡ q = omega arith in e)

-- ── one place ──

module _ (c p : ℕ) (σ : Store) where
  pub emptied : c ≤ p → set σ p None ≡ set σ p (end_slot c p (at σ p))
  emptied h = ap (set σ p) (sym (end_empty c p (at σ p) h))

  pub stays_empty : at σ p ≡ None → σ ≡ set σ p (end_slot c p (at σ p))
  stays_empty e = sym (set-get_or σ p None) ∙ ap (set σ p) (e ∙ sym (ap (end_slot c p) e ∙ end_none c p))

  -- a record at a place below c is kept, with the contents that are kept of it
  pub kept_there : (r : Record) → p < c → at σ p ≡ Some r
      → set σ p (Some (record { kind = r.kind; label = r.label; contents = kept_contents c r.contents })) ≡ set σ p (end_slot c p (at σ p))
  unfolding kept_slot
  kept_there r h e = ap (set σ p) (sym (end_kept c p (at σ p) h ∙ ap (kept_slot c) e))

-- ── all places ──

-- the job has ended at the places below p, of the store that was σ and is τ
pub record Ending (c : ℕ) (σ τ : Store) (p : ℕ) : Type 0 where
  pub sized : length τ ≡ length σ
  pub below : (q : ℕ) → q < p → at τ q ≡ end_slot c q (at σ q)
  pub above : (q : ℕ) → p ≤ q → at τ q ≡ at σ q

module _ (c : ℕ) (σ : Store) where
  pub none_yet : Ending c σ σ 0
  none_yet = record { sized = refl; below = λ q h. absurd (omega arith); above = λ q h. refl }

  module _ (τ : Store) (p : ℕ) (e : Ending c σ τ p) where
    pub one_more : p < length σ → (ρ : Store) → ρ ≡ set τ p (end_slot c p (at τ p)) → Ending c σ ρ (p + 1)
    one_more h ρ r =
        rw r (record { sized = length-set τ p new ∙ e.sized; below = λ q lt. here q lt (ℕ_discrete q p); above = λ q le. beyond q le })
      where
        new : Slot
        new = end_slot c p (at τ p)

        beyond : (q : ℕ) → p + 1 ≤ q → at (set τ p new) q ≡ at σ q
        beyond q le = get_or-set_other τ p q new None (λ n. omega arith) ∙ e.above q (omega arith)

        here : (q : ℕ) → q < p + 1 → Dec (q ≡ p) → at (set τ p new) q ≡ end_slot c q (at σ q)
        here q lt (yes n) =
            rw n (get_or-set_same τ p new None (omega (arith, e.sized)) ∙ ap (end_slot c p) (e.above p (omega arith)))
        here q lt (no n) = get_or-set_other τ p q new None n ∙ e.below q (omega (arith, n))

    pub all_ended : length σ ≤ p → τ ≡ end_job c σ
    all_ended h =
        ext_get_or None τ (end_job c σ) (e.sized ∙ sym (length_end c 0 σ))
        (λ q lt. e.below q (omega (arith, e.sized)) ∙ sym (end_at c σ q))
