-- One run: what it leaves as it was. No assumption on how it ends.
use Rattle.std.specs.Prelude.{None, Some}
use mathlib.Core.Bool.{Bool, true, false, true≢false}
use mathlib.Core.Path.{◌≡◌, refl, sym, ap, ◌∙◌}
use Prim.Native.Nat.{ℕ, ◌+◌, ◌-◌, ◌≤◌, ◌<◌}
use native.Mathlib.Omega.{arith}
use lib.ListN.{length, set, length-set}
use Rattle.labels.specs.declared.Label.{Label}
use Rattle.model.specs.State.{Control, Store, Program, flows_in, Runner, at, with_steps, with_next, shown, Slot}
use Rattle.model.specs.declared.Account.{Account}
use Rattle.model.specs.Effects.{Next, holding, body_account}
use Rattle.model.specs.Running.{step, resume, run}
use Rattle.model.specs.declared.Kind.{Kind}
use Rattle.model.specs.declared.Kind.TheVariants.{Sealed}
use Rattle.model.specs.declared.Contents.{Contents}
use Rattle.model.specs.declared.Contents.TheVariants.{Value as Holds, Fault}
use Rattle.model.specs.declared.Record.{Record}
use Rattle.model.proofs.Places.{after_set}
use Rattle.model.proofs.Effects.{Runs, Of, step_of, resume_of, run_of}

-- ── the statement ──

-- All that is asked of the order, and of the set Low of the labels that an observer sees: the set is closed downward
-- under the flow test, and a join is above both its sides.
pub record LowSet (P : Program) (Low : Label → Bool) : Type 0 where
  pub down : (l m : Label) → flows_in P l m ≡ true → Low m ≡ true → Low l ≡ true
  pub join_left : (l m : Label) → flows_in P l (P.join l m) ≡ true
  pub join_right : (l m : Label) → flows_in P m (P.join l m) ≡ true

-- a record without its contents
unfoldable pub shell : Slot → Slot
shell None = None
shell (Some x) = holding x.kind x.label (Fault 0 0)

-- a place that the run may still fill
abbrev Allotted : Account → ℕ → Type 0
Allotted a p = (a.next ≤ p) × (p < a.limit)

-- the store has these places, and they are empty
abbrev pub Fresh : Account → Store → Type 0
Fresh a σ = (p : ℕ) → Allotted a p → (p < length σ) × (at σ p ≡ None)

-- from account a and store σ to account b and store τ
pub record Kept (Low : Label → Bool) (a : Account) (σ : Store) (b : Account) (τ : Store) : Type 0 where
  -- no place is given back, and those left are still fresh
  pub within : (p : ℕ) → Allotted b p → Allotted a p
  pub fresh : Fresh b τ
  pub sized : length σ ≡ length τ
  -- outside the allotment no record comes, and none changes its kind or label
  pub shells : (p : ℕ) → ¬ Allotted a p → shell (at σ p) ≡ shell (at τ p)
  -- a label that is not in the set stays so, and under it the observer sees nothing change
  pub stays : Low a.label ≡ false → Low b.label ≡ false
  pub hides : Low a.label ≡ false → (p : ℕ) → shown Low (at σ p) ≡ shown Low (at τ p)

-- ── the proof, by effects ──

shell_empty : (x : Slot) → shell x ≡ None → x ≡ None
unfolding shell
shell_empty None e = refl
shell_empty (Some x) e = cc

pub unseen : (Low : Label → Bool) (h : Kind) (l : Label) (x : Contents) → Low l ≡ false → shown Low (holding h l x) ≡ None
unfolding shown
unseen Low h l x e = rw e

module _ (P : Program) (Low : Label → Bool) (D : LowSet P Low) where
  -- the labels that are not in the set are closed upward
  pub up : (l m : Label) → flows_in P l m ≡ true → Low l ≡ false → Low m ≡ false
  up l m f e = test (Low m) refl
    where
      test : (b : Bool) → Low m ≡ b → Low m ≡ false
      test true h = absurd (true≢false (sym (D.down l m f h) ∙ e))
      test false h = h

  pub kept_refl : (a : Account) (σ : Store) → Fresh a σ → Kept Low a σ a σ
  kept_refl a σ fr = record { within = λ p i. i; fresh = fr; sized = refl; shells = λ p n. refl; stays = λ e. e; hides = λ e p. refl }

  kept_trans : (a b c : Account) (σ τ ρ : Store) → Kept Low a σ b τ → Kept Low b τ c ρ → Kept Low a σ c ρ
  kept_trans a b c σ τ ρ k m =
      record {
        within = λ p i. k.within p (m.within p i);
        fresh = m.fresh;
        sized = k.sized ∙ m.sized;
        shells = λ p n. k.shells p n ∙ m.shells p (λ i. n (k.within p i));
        stays = λ e. m.stays (k.stays e);
        hides = λ e p. k.hides e p ∙ m.hides (k.stays e) p;
      }

  -- only label, clearance or steps change
  account_kept : (a : Account) (l c : Label) (n : ℕ) (σ : Store) → Fresh a σ → (Low a.label ≡ false → Low l ≡ false)
      → Kept Low a σ (record { label = l; clearance = c; steps = n; next = a.next; limit = a.limit; depth = a.depth }) σ
  account_kept a l c n σ fr h =
      record { within = λ p i. i; fresh = fr; sized = refl; shells = λ p n. refl; stays = h; hides = λ e p. refl }

  -- a record's contents are replaced
  write_kept : (a : Account) (σ : Store) (p : ℕ) (x : Record) (y : Contents) → Fresh a σ → at σ p ≡ Some x
      → flows_in P a.label x.label ≡ true → Kept Low a σ a (set σ p (holding x.kind x.label y))
  unfolding shell
  write_kept a σ p x y fr e f =
      record {
        within = λ q i. i;
        fresh = λ q i. (
          rw length-set (fr q i).0,
          after_set (λ r z. Allotted a r → z ≡ None) σ p new None (λ r _ j. (fr r j).1) (λ j. clash (fr p j).1) (λ j. (fr p j).1) q i,
        );
        sized = sym (length-set σ p new);
        shells = λ q n. after_set (λ r z. shell (at σ r) ≡ shell z) σ p new None (λ r _. refl) (ap shell e) refl q;
        stays = λ u. u;
        hides = λ u q. after_set (λ r z. shown Low (at σ r) ≡ shown Low z) σ p new None (λ r _. refl)
            (ap (shown Low) e ∙ unseen Low x.kind x.label x.contents (up a.label x.label f u)
            ∙ sym (unseen Low x.kind x.label y (up a.label x.label f u))) refl q;
      }
    where
      new : Slot
      new = holding x.kind x.label y

      clash : at σ p ≡ None → holding x.kind x.label y ≡ None
      clash g = cc

  -- the next place is filled, after a run from account b within the places behind it
  seal_kept : (a b b' a' : Account) (σ τ : Store) (h : Kind) (l : Label) (x : Contents) → Fresh a σ → Kept Low b σ b' τ
      → a.next < b.next → b.limit ≤ a'.next → a.next < a'.next → a'.limit ≤ a.limit → b.limit ≤ a.limit → a.next < a.limit
      → a'.label ≡ a.label → b.label ≡ a.label → flows_in P a.label l ≡ true
      → Kept Low a σ a' (set τ a.next (holding h l x))
  unfolding shell shown
  seal_kept a b b' a' σ τ h l x fr k c1 c2 c3 c4 c5 c6 e1 e2 f =
      record {
        within = λ p i. omega arith;
        fresh = λ p i. (
          rw length-set (rw (← k.sized) (fr p (omega arith)).0),
          after_set (λ q z. Allotted a' q → z ≡ None) τ a.next (holding h l x) None
              (λ q _ j. shell_empty (at τ q) (sym (k.shells q (λ m. omega arith)) ∙ ap shell (fr q (omega arith)).1))
              (λ j. absurd (omega arith)) (λ j. absurd (omega arith)) p i,
        );
        sized = k.sized ∙ sym (length-set τ a.next (holding h l x));
        shells = λ p n. after_set (λ q z. ¬ Allotted a q → shell (at σ q) ≡ shell z) τ a.next (holding h l x) None
            (λ q _ m. k.shells q (λ i. m (omega arith)))
            (λ m. absurd (m (omega arith)))
            (λ m. absurd (m (omega arith))) p n;
        stays = λ u. rw e1 u;
        hides = λ u p. after_set (λ q z. shown Low (at σ q) ≡ shown Low z) τ a.next (holding h l x) None
            (λ q _. k.hides (rw e2 u) q)
            (ap (shown Low) (fr a.next (omega arith)).1 ∙ sym (unseen Low h l x (up a.label l f u)))
            (k.hides (rw e2 u) a.next) p;
      }

  -- of a runner: each of its runs is kept
  abbrev pub RunnerKept : Runner → Type 0
  RunnerKept R = (c : Control) (a : Account) (σ : Store) → Fresh a σ → Kept Low a σ (R c a σ).account (R c a σ).store

  -- SEAL and NEW are a block with an empty body
  make_kept : (a : Account) (σ : Store) (h : Kind) (l : Label) (x : Contents) → Fresh a σ → a.next < a.limit → flows_in P a.label l ≡ true
      → Kept Low a σ (with_next (a.next + 1) a) (set σ a.next (holding h l x))
  make_kept a σ h l x fr lt f =
      seal_kept a (body_account 0 0 a) (body_account 0 0 a) (with_next (a.next + 1) a) σ σ h l x fr
      (kept_refl (body_account 0 0 a) σ (λ p i. absurd (omega arith)))
      (omega arith) (omega arith) (omega arith) (omega arith) (omega arith) (omega arith) refl refl f

  block_kept : (R : Runner) → RunnerKept R → (c : Control) (a : Account) (σ : Store) (b : Label) (n k : ℕ) (x : Contents) → Fresh a σ
      → a.next + 1 + k ≤ a.limit → flows_in P a.label b ≡ true
      → Kept Low a σ (with_next (a.next + 1 + k) (with_steps (a.steps - n) a))
      (set (R c (body_account n k a) σ).store a.next (holding Sealed b x))
  block_kept R ResultKind c a σ b n k x fr le f =
      seal_kept a (body_account n k a) (R c (body_account n k a) σ).account (with_next (a.next + 1 + k) (with_steps (a.steps - n) a)) σ
      (R c (body_account n k a) σ).store Sealed b x fr
      (ResultKind c (body_account n k a) σ (λ p i. fr p (omega arith)))
      (omega arith) (omega arith) (omega arith) (omega arith) (omega arith) (omega arith) refl refl f

  kept_runs : Runs P Fresh (Kept Low)
  kept_runs =
      record {
        holds = λ a b σ τ k. k.fresh;
        same = kept_refl;
        chain = kept_trans;
        pays = λ a σ n fr e. account_kept a a.label a.clearance n σ fr (λ u. u);
        effects = λ R ResultKind a σ fr. record {
          keeps = kept_refl a σ fr;
          clears = λ b τ m k. record {
            within = k.within;
            fresh = k.fresh;
            sized = k.sized;
            shells = k.shells;
            stays = k.stays;
            hides = k.hides;
          };
          raises_to = λ l e. account_kept a (P.join a.label l) a.clearance a.steps σ fr
              (up a.label (P.join a.label l) (D.join_left a.label l));
          made = λ h l d e f lt. make_kept a σ h l (Holds d) fr lt e;
          written = λ p x d e f g. write_kept a σ p x (Holds d) fr e f;
          blocked = λ c b n k e f d le x. block_kept R ResultKind c a σ b n k x fr le e;
        };
      }

  pub run_kept : (f : ℕ) → RunnerKept (run P f)
  run_kept = run_of P Fresh (Kept Low) kept_runs

  pub step_kept : (R : Runner) → RunnerKept R → (c : Control) (a : Account) (σ : Store) → Fresh a σ → Of (Kept Low a σ) (step P R c a σ)
  step_kept R ResultKind c a σ fr = step_of (Kept Low a σ) P R c a σ (kept_runs.effects R ResultKind a σ fr)

  pub resume_kept : (R : Runner) → RunnerKept R → (a : Account) (σ : Store) (x : Next) → Of (Kept Low a σ) x
      → Kept Low a σ (resume R x).account (resume R x).store
  resume_kept = resume_of P Fresh (Kept Low) kept_runs
