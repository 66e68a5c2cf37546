-- The store between jobs: no place from C on is taken.
use Rattle.std.specs.Prelude.{None, Some}
use mathlib.Core.List.{List}
use mathlib.Core.Path.{◌≡◌, refl, sym, ap, ◌∙◌}
use Prim.Native.Nat.{ℕ, ◌≤◌, ◌<◌}
use native.Mathlib.Omega.{arith}
use native.Mathlib.Decide.{dec_lt}
use lib.ListN.{length, length-append, length-replicate, get_or-eq_default}
use Rattle.model.specs.State.{Store, at, Slot}
use Rattle.model.specs.Inputs.{Input, input_slots}
use Rattle.model.specs.Running.{runs, start_control, start_store}
use Rattle.model.proofs.Kept.{Fresh, Kept, shell, run_kept}
use Rattle.model.proofs.Start.{length_inputs, length_slots, start_fresh}
use Rattle.model.proofs.Reached.{any_label}
use Rattle.file_sections.specs.Sections.{record_bytes_of, inputs_over}
use Rattle.noninterference.proofs.Accepted.{every_label}
use Rattle.day_file.specs.declared.Job.{Job}
use Rattle.day_file.specs.Sections.{day_header, day_sections, day_label, day_inputs, span}
use Rattle.day_jobs.specs.JobEnd.{end_job}
use Rattle.day_jobs.specs.Running.{job_program, job_program_over, job_account, job_account_over, job_run, job_run_over, store_after, store_after_over}
use Rattle.day_jobs.proofs.JobEnd.{length_end, end_at, end_empty}

-- of the 256 places of a store, none from c on is taken
pub record Free (c : ℕ) (σ : Store) : Type 0 where
  pub sized : length σ ≡ 256
  pub empty : (p : ℕ) → c ≤ p → at σ p ≡ None

pub end_free : (c : ℕ) (σ : Store) → length σ ≡ 256 → Free c (end_job c σ)
end_free c σ e = record { sized = length_end c 0 σ ∙ e; empty = λ p le. end_at c σ p ∙ end_empty c p (at σ p) le }

shell_none : (x : Slot) → shell None ≡ shell x → x ≡ None
unfolding shell
shell_none None e = refl
shell_none (Some r) e = cc

-- ── the jobs ──

module _ (bs : List ℕ) where
  pub count_inputs : length (day_inputs bs) ≡ (day_header bs).records.count
  unfolding inputs_over
  count_inputs = length_inputs (day_label bs) (record_bytes_of (day_sections bs) bs) (day_header bs).records.count 0

  pub job_fresh : (j : Job) (σ : Store) → j.places ≤ 256 → Free (day_header bs).records.count σ → Fresh (job_account bs j) σ
  unfolding job_account_over
  job_fresh j σ le f p i = (omega (arith, i.1, f.sized), f.empty p i.0)

  -- the day starts with no more places taken than there are inputs
  pub start_free : (xs : List Input) → length xs ≡ (day_header bs).records.count → (day_header bs).records.count ≤ 256
      → Free (day_header bs).records.count (start_store (input_slots xs))
  unfolding start_store
  start_free xs e le = record { sized = sized; empty = λ p h. below p h (dec_lt p 256) }
    where
      sized : length (start_store (input_slots xs)) ≡ 256
      sized = simp (length-append, length-replicate, length_slots) (omega arith)

      below : (p : ℕ) → (day_header bs).records.count ≤ p → Dec (p < 256) → at (start_store (input_slots xs)) p ≡ None
      below p h (yes lt) = (start_fresh xs (day_label bs 0) (day_label bs 0) 0 (day_header bs).records.count 256 (sym e) (omega arith) p (h, lt)).1
      below p h (no far) = get_or-eq_default (start_store (input_slots xs)) None (omega (arith, sized))

  module _ (j : Job) (le : j.places ≤ 256) (σ : Store) (f : Free (day_header bs).records.count σ) where
    kept : Kept any_label (job_account bs j) σ (job_run bs j σ).account (job_run bs j σ).store
    unfolding job_run_over runs job_program_over
    kept =
        run_kept (job_program bs j) any_label (every_label (span bs j) (day_label bs) (day_inputs bs)) (job_account bs j).steps start_control (job_account bs j) σ
        (job_fresh j σ le f)

    -- a run keeps the places of the store
    pub job_sized : length (job_run bs j σ).store ≡ 256
    job_sized = sym kept.sized ∙ f.sized

    pub after_free : Free (day_header bs).records.count (store_after bs j σ)
    unfolding store_after_over
    after_free = end_free (day_header bs).records.count (job_run bs j σ).store job_sized

    -- and fills none from its limit on
    pub job_below : (day_header bs).records.count ≤ j.places → (p : ℕ) → j.places ≤ p → at (job_run bs j σ).store p ≡ None
    unfolding job_account_over
    job_below fits p h =
        shell_none (at (job_run bs j σ).store p) (ap shell (sym (f.empty p (omega arith))) ∙ kept.shells p (λ i. omega (arith, i.1)))
