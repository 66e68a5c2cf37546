-- How long the views of a day can get: a job fills no place from its limit on.
use Rattle.std.specs.Prelude.{None}
use mathlib.Core.Bool.{Bool, true, false}
use mathlib.Core.List.{List, [], ◌∷◌}
use mathlib.Core.Path.{◌≡◌, refl}
use Prim.Native.Nat.{ℕ, zero, suc, ◌+◌, ◌*◌, ◌≤◌}
use native.Mathlib.Omega.{arith}
use lib.ListN.{length, length-append}
use Rattle.labels.specs.declared.Label.{Label}
use Rattle.model.specs.State.{Store, at, shown}
use Rattle.model.specs.Inputs.{input_slots}
use Rattle.model.specs.Running.{start_store}
use Rattle.view.specs.Layout.{records_shown, view, length_over}
use Rattle.view.proofs.Widths.{one_small, length_view}
use Rattle.day_file.specs.declared.Job.{Job}
use Rattle.day_file.specs.Sections.{day_header, day_inputs, jobs_of_day}
use Rattle.day_file.specs.Checks.{day_refusal}
use Rattle.day_file.proofs.Tests.{AllJobs, all_map}
use Rattle.day_file.proofs.Answers.{within-limits, jobs-fit}
use Rattle.admission.specs.Admission.{day_admitted}
use Rattle.day_jobs.specs.Running.{job_run, store_after, turns, turns_over, day_turns, day_turns_over}
use Rattle.day_jobs.proofs.Between.{Free, count_inputs, start_free, after_free, job_below}
use Rattle.day.specs.Views.{skipped_view, turn_view_over, each_turn, turn_views}
use Rattle.day.specs.Parts.{most_bytes}
use Rattle.day.proofs.Views.{length_skipped}

-- ── how many records are shown ──

none_shown : (Reads : Label → Bool) (σ : Store) → ((p : ℕ) → at σ p ≡ None) → records_shown Reads σ ≡ 0
unfolding records_shown shown
none_shown Reads [] e = refl
none_shown Reads (x ∷ σ) e = let f = none_shown Reads σ (λ p. e (suc p)) in rw (e 0) (omega (arith, f))

-- where no place from k on is taken, at most k
shown_below : (Reads : Label → Bool) (σ : Store) (k : ℕ) → ((p : ℕ) → k ≤ p → at σ p ≡ None) → records_shown Reads σ ≤ k
unfolding records_shown
shown_below Reads σ zero e = let f = none_shown Reads σ (λ p. e p (omega arith)) in omega arith
shown_below Reads [] (suc k) e = omega arith
shown_below Reads (x ∷ σ) (suc k) e =
    let f = shown_below Reads σ k (λ p le. e (suc p) (omega arith)) in
    omega (arith, one_small (shown Reads x))

-- ── the jobs ──

module _ (bs : List ℕ) where
  module _ (j : Job) (le : j.places ≤ 256) (σ : Store) (f : Free (day_header bs).records.count σ) where
    pub job_most : (Reads : Label → Bool) → (day_header bs).records.count ≤ j.places → length (view Reads j.steps (job_run bs j σ)) ≤ 206 + 132 * j.places
    unfolding length_over
    job_most Reads fits =
        omega (arith, length_view Reads j.steps (job_run bs j σ), shown_below Reads (job_run bs j σ).store j.places (job_below bs j le σ f fits))

  -- The views of some jobs have at most the bytes that their places allow, whichever are admitted.
  pub views_most : (Reads : Label → Bool) (js : List Job) (ads : List Bool) (σ : Store)
      → AllJobs (λ j. ((day_header bs).records.count ≤ j.places) × (j.places ≤ 256)) js → Free (day_header bs).records.count σ
      → length (turn_views Reads (turns bs js ads σ)) ≤ most_bytes js
  unfolding turns_over each_turn turn_view_over most_bytes
  views_most Reads [] ads σ fit f = omega arith
  views_most Reads (j ∷ js) [] σ fit f = omega arith
  views_most Reads (j ∷ js) (true ∷ ads) σ fit f =
      let rest = views_most Reads js ads (store_after bs j σ) fit.1 (after_free bs j fit.0.1 σ f) in
      let a = length-append (view Reads j.steps (job_run bs j σ)) (turn_views Reads (turns bs js ads (store_after bs j σ))) in
      omega (arith, job_most j fit.0.1 σ f Reads fit.0.0)
  views_most Reads (j ∷ js) (false ∷ ads) σ fit f =
      let rest = views_most Reads js ads σ fit.1 f in
      let a = length-append skipped_view (turn_views Reads (turns bs js ads σ)) in
      omega (arith, length_skipped)

-- of a day that is not refused
pub day_most : (bs : List ℕ) → day_refusal bs ≡ 0 → (Reads : Label → Bool) → length (turn_views Reads (day_turns bs)) ≤ most_bytes (jobs_of_day bs)
unfolding day_turns_over
day_most bs none Reads =
    views_most bs Reads (jobs_of_day bs) (day_admitted bs) (start_store (input_slots (day_inputs bs)))
    (all_map (λ j f. (f.inputs_fit, f.places)) (jobs_of_day bs) (jobs-fit bs none))
    (start_free bs (day_inputs bs) (count_inputs bs) (omega (arith, (within-limits bs none).records)))
