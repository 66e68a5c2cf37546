-- The jobs of a day, one after the other, on two stores that an observer can't tell apart: by induction from the two-run
-- theorem. Which jobs are admitted is taken as given.
use mathlib.Core.Bool.{Bool, true, false}
use mathlib.Core.List.{List, [], ◌∷◌, ◌++◌}
use mathlib.Core.Path.{◌≡◌, refl, ap, ap₂}
use Prim.Native.Nat.{ℕ, ◌≤◌}
use Rattle.labels.specs.declared.Label.{Label}
use Rattle.model.specs.State.{Store, Program}
use Rattle.model.specs.Running.{program_of, start_control}
use Rattle.model.proofs.Kept.{LowSet}
use Rattle.model.proofs.LowEquivalence.{Twin, LowEquivalent, LowOutcomes}
use Rattle.model.proofs.Start.{numbers_point}
use Rattle.model.proofs.TwoRuns.{two_runs}
use Rattle.view.proofs.SameView.{same_view}
use Rattle.day_file.specs.Sections.{day_header, day_label, day_inputs}
use Rattle.day_file.specs.declared.Job.{Job}
use Rattle.day_file.proofs.Tests.{AllJobs}
use Rattle.day_jobs.specs.Running.{job_program, job_program_over, job_account, job_run, job_run_over, store_after, store_after_over, skipped, turns, turns_over}
use Rattle.day.specs.Views.{turn_view, turn_view_over, each_turn, turn_views}
use Rattle.day_jobs.proofs.Between.{Free, count_inputs, job_fresh, after_free}
use Rattle.day_noninterference.proofs.JobEnd.{end_equivalent, other_program}

module _ (bs : List ℕ) where
  -- a program with the day's labels and inputs; what its code is plays no part where no job runs
  abbrev pub between_jobs : Program
  between_jobs = program_of [] (day_label bs) (day_inputs bs)

  -- Two stores between jobs: no place from C on is taken, and an observer of the labels in Low can't tell them apart.
  pub record Between (Low : Label → Bool) (σ τ : Store) : Type 0 where
    pub left : Free (day_header bs).records.count σ
    pub right : Free (day_header bs).records.count τ
    pub same : LowEquivalent between_jobs Low σ τ

  -- ── one job ──

  module _ (Low : Label → Bool) (D : LowSet between_jobs Low) (j : Job) (le : j.places ≤ 256) where
    under : LowSet (job_program bs j) Low
    unfolding job_program_over
    under = record { down = D.down; join_left = D.join_left; join_right = D.join_right }

    module _ (σ τ : Store) (b : Between Low σ τ) where
      pub two_jobs : LowOutcomes (job_program bs j) Low (job_run bs j σ) (job_run bs j τ)
      unfolding job_program_over job_run_over
      two_jobs =
          two_runs (job_program bs j) Low under start_control (job_account bs j) σ τ (job_fresh bs j σ le b.left) (job_fresh bs j τ le b.right)
          (record { stack = tt; locals = numbers_point (Twin σ τ) 16 }) (other_program between_jobs (job_program bs j) Low σ τ refl b.same)

      -- and once it has ended, the next job starts from two such stores
      pub after_between : Between Low (store_after bs j σ) (store_after bs j τ)
      unfolding job_program_over store_after_over
      after_between =
          record {
            left = after_free bs j le σ b.left;
            right = after_free bs j le τ b.right;
            same = end_equivalent (day_header bs).records.count (job_run bs j σ).store (job_run bs j τ).store (job_program bs j) between_jobs Low
                (day_inputs bs) refl refl (count_inputs bs) two_jobs.stores;
          }

  -- ── the jobs ──

  -- The turns of the same jobs, of which the same are admitted, give one view each to each reader of labels in the set.
  module _ (Reads Low : Label → Bool) (within : (l : Label) → Reads l ≡ true → Low l ≡ true) (D : LowSet between_jobs Low) where
    pub same_turns : (js : List Job) (ads : List Bool) (σ τ : Store) → AllJobs (λ j. j.places ≤ 256) js → Between Low σ τ
        → turn_views Reads (turns bs js ads σ) ≡ turn_views Reads (turns bs js ads τ)
    unfolding turns_over each_turn turn_view_over
    same_turns [] ads σ τ fit b = refl
    same_turns (j ∷ js) [] σ τ fit b = refl
    same_turns (j ∷ js) (true ∷ ads) σ τ fit b =
        ap₂ (λ (v vs : List ℕ). v ++ vs)
        (same_view Reads Low within (job_program bs j) j.steps (job_run bs j σ) (job_run bs j τ) (two_jobs Low D j fit.0 σ τ b))
        (same_turns js ads (store_after bs j σ) (store_after bs j τ) fit.1 (after_between Low D j fit.0 σ τ b))
    same_turns (j ∷ js) (false ∷ ads) σ τ fit b = ap (λ (vs : List ℕ). turn_view Reads skipped ++ vs) (same_turns js ads σ τ fit.1 b)
