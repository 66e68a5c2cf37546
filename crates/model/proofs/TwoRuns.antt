-- The two-run theorem: two runs of one program from stores that an observer can't tell apart end so that the observer can't tell
-- them apart. Neither is assumed to finish, and nothing is assumed of the code.
use mathlib.Core.Bool.{Bool}
use Prim.Native.Nat.{ℕ, zero, suc}
use Rattle.labels.specs.declared.Label.{Label}
use Rattle.model.specs.State.{Control, Store, Program, Outcome, Runner, with_steps}
use Rattle.model.specs.declared.Account.{Account}
use Rattle.model.specs.Effects.{Next}
use Rattle.model.specs.Running.{step, resume, pay, run, runs}
use Rattle.model.proofs.Effects.{account_of, store_of}
use Rattle.model.proofs.Kept.{LowSet, Fresh, Kept, kept_refl, RunnerKept, step_kept, resume_kept, run_kept}
use Rattle.model.proofs.Plans.{Reach}
use Rattle.model.proofs.LowEquivalence.{Twin, LowEquivalent, together, apart, LowOutcomes, LowNext, goes, stops, parts, equivalent_apart}
use Rattle.model.proofs.TwoSteps.{RunnerTwo, step_two}

module _ (P : Program) (Low : Label → Bool) (D : LowSet P Low) where
  resume_two : (R : Runner) → RunnerKept P Low D R → RunnerTwo P Low D R → (x y : Next) → Fresh (account_of x) (store_of x)
      → Fresh (account_of y) (store_of y) → LowNext P Low x y → LowOutcomes P Low (resume R x) (resume R y)
  unfolding resume
  resume_two R ResultKind RT x y fx fy (goes {c = c} {a = a} {σ = σ} {τ = τ} g s) = RT c a σ τ fx fy g s
  resume_two R ResultKind RT x y fx fy (stops o s) = record { stores = s; ends = together o }
  resume_two R ResultKind RT x y fx fy (parts u v s) =
      record {
        stores = equivalent_apart P Low (account_of x) (account_of y) (resume R x).account (resume R y).account (store_of x) (store_of y)
            (resume R x).store (resume R y).store fx fy kx ky u v s;
        ends = apart (kx.stays u) (ky.stays v);
      }
    where
      kx : Kept Low (account_of x) (store_of x) (resume R x).account (resume R x).store
      kx = resume_kept P Low D R ResultKind (account_of x) (store_of x) x (kept_refl P Low D (account_of x) (store_of x) fx)

      ky : Kept Low (account_of y) (store_of y) (resume R y).account (resume R y).store
      ky = resume_kept P Low D R ResultKind (account_of y) (store_of y) y (kept_refl P Low D (account_of y) (store_of y) fy)

  pay_two : (n : ℕ) (a : Account) (σ τ : Store) (k m : Account → Outcome) → LowEquivalent P Low σ τ
      → ((i : ℕ) → LowOutcomes P Low (k (with_steps i a)) (m (with_steps i a))) → LowOutcomes P Low (pay n a σ k) (pay n a τ m)
  unfolding pay
  pay_two zero a σ τ k m s h = record { stores = s; ends = together tt }
  pay_two (suc n) a σ τ k m s h = h n

  run_two : (f : ℕ) → RunnerTwo P Low D (run P f)
  unfolding run
  run_two zero c a σ τ fσ fτ g s = record { stores = s; ends = together tt }
  run_two (suc f) c a σ τ fσ fτ g s =
      pay_two a.steps a σ τ (λ b. resume (run P f) (step P (run P f) c b σ)) (λ b. resume (run P f) (step P (run P f) c b τ)) s
      (λ i. resume_two (run P f) (run_kept P Low D f) (run_two f)
      (step P (run P f) c (with_steps i a) σ) (step P (run P f) c (with_steps i a) τ)
      (step_kept P Low D (run P f) (run_kept P Low D f) c (with_steps i a) σ fσ).fresh
      (step_kept P Low D (run P f) (run_kept P Low D f) c (with_steps i a) τ fτ).fresh
      (step_two P Low D (run P f) (run_kept P Low D f) (run_two f) c (with_steps i a) σ τ fσ fτ g s))

  -- The two-run theorem.
  pub two_runs : (c : Control) (a : Account) (σ τ : Store) → Fresh a σ → Fresh a τ → Reach (Twin σ τ) c → LowEquivalent P Low σ τ
      → LowOutcomes P Low (runs P c a σ) (runs P c a τ)
  unfolding runs
  two_runs c a σ τ = run_two a.steps c a σ τ
