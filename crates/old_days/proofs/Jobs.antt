-- A day's jobs under other labels. For a map of labels that keeps flow answers, join and meet: each job's run is the mapped run,
-- and its end leaves the mapped store; so the turns of a whole day are the mapped turns.
use Rattle.std.specs.Prelude.{None, Some}
use mathlib.Core.Bool.{Bool, true, false}
use mathlib.Core.List.{List, [], ◌∷◌, map}
use mathlib.Core.Path.{◌≡◌, refl, ap, ap₂, ◌∙◌}
use Prim.Native.Nat.{ℕ, suc}
use lib.Dec.{leb, ltb}
use Rattle.labels.specs.declared.Label.{Label}
use Rattle.model.specs.State.{Store, Outcome, Slot}
use Rattle.model.specs.Inputs.{Input, inputs, input_slots}
use Rattle.model.specs.Running.{runs, start_control, start_account, start_store}
use Rattle.model.specs.declared.Datum.{Datum}
use Rattle.model.specs.declared.Datum.TheVariants.{Number, Label as Labelled, Handle}
use Rattle.model.specs.declared.Contents.{Contents}
use Rattle.model.specs.declared.Contents.TheVariants.{Value as Holds, Fault}
use Rattle.relabelling.specs.Relabelled.{datum_under, contents_under, slot_under, store_under, outcome_under, input_under}
use Rattle.relabelling.specs.Keeps.{Order, KeepsOrder, program_in}
use Rattle.relabelling.proofs.Lists.{cond_under}
use Rattle.relabelling.proofs.Runs.{runs_under}
use Rattle.relabelling.proofs.Starts.{inputs_under, slots_under, store-under, program_under}
use Rattle.file_sections.specs.Sections.{record_bytes_of, inputs_over}
use Rattle.day_file.specs.Sections.{day_header, day_sections, day_label_over, jobs_of_day, span}
use Rattle.day_file.specs.declared.Job.{Job}
use Rattle.admission.specs.Admission.{day_admitted}
use Rattle.day_jobs.specs.JobEnd.{kept_datum, kept_contents, kept_slot, end_slot, end_from, end_job}
use Rattle.day_jobs.specs.Running.{Turn, skipped, ran, job_program_over, job_account_over, job_run_over, store_after_over, turns_over, day_turns_over}
use Rattle.old_files.proofs.Order.{order}
use Rattle.old_days.specs.Contents.{turn_under}

-- ── a job's end: it looks at places and handles, never at a label ──

module _ (h : Label → Label) (c : ℕ) where
  datum_kept : (d : Datum) → kept_datum c (datum_under h d) ≡ contents_under h (kept_datum c d)
  unfolding kept_datum
  datum_kept (Number n) = refl
  datum_kept (Labelled l) = refl
  datum_kept (Handle k p) = cond_under (contents_under h) (leb c p) refl refl

  contents_kept : (x : Contents) → kept_contents c (contents_under h x) ≡ contents_under h (kept_contents c x)
  unfolding kept_contents
  contents_kept (Holds d) = datum_kept d
  contents_kept (Fault code n) = refl

  slot_kept : (x : Slot) → kept_slot c (slot_under h x) ≡ slot_under h (kept_slot c x)
  unfolding kept_slot
  slot_kept None = refl
  slot_kept (Some r) = ap (λ (x : Contents). Some (record { kind = r.kind; label = h r.label; contents = x })) (contents_kept r.contents)

  end-from : (p : ℕ) (σ : Store) → end_from c p (store_under h σ) ≡ store_under h (end_from c p σ)
  unfolding end_from end_slot
  end-from p [] = refl
  end-from p (x ∷ σ) = ap₂ (λ (y : Slot) (τ : Store). y ∷ τ) (cond_under (slot_under h) (ltb p c) (slot_kept x) refl) (end-from (suc p) σ)

-- ── the jobs of a day, in any order of labels, under any labels ──

module _ (bs : List ℕ) where
  abbrev inputs_in : (ℕ → Label) → List Input
  inputs_in ls = inputs ls (record_bytes_of (day_sections bs) bs) (day_header bs).records.count 0

  abbrev first_store : (ℕ → Label) → Store
  first_store ls = start_store (input_slots (inputs_in ls))

  job_in : Order → (ℕ → Label) → Job → Store → Outcome
  job_in o ls j σ =
      runs (program_in o (span bs j) ls (inputs_in ls)) start_control
      (start_account (ls j.label) (ls j.clearance) j.steps (day_header bs).records.count j.places) σ

  abbrev store_in : Order → (ℕ → Label) → Job → Store → Store
  store_in o ls j σ = end_job (day_header bs).records.count (job_in o ls j σ).store

  turns_in : Order → (ℕ → Label) → List Job → List Bool → Store → List Turn
  turns_in o ls [] ads σ = []
  turns_in o ls (j ∷ js) [] σ = []
  turns_in o ls (j ∷ js) (true ∷ ads) σ = ran j.steps (job_in o ls j σ) ∷ turns_in o ls js ads (store_in o ls j σ)
  turns_in o ls (j ∷ js) (false ∷ ads) σ = skipped ∷ turns_in o ls js ads σ

  pub day_in : Order → (ℕ → Label) → List Turn
  day_in o ls = turns_in o ls (jobs_of_day bs) (day_admitted bs) (first_store ls)

  -- ── the definition's are those in the order of labels, under the day's labels ──

  turns-in : (n : ℕ) (js : List Job) (ads : List Bool) (σ : Store) → turns_over n bs js ads σ ≡ turns_in order (day_label_over n bs) js ads σ
  unfolding turns_over turns_in store_after_over job_run_over job_program_over job_account_over job_in inputs_over
  turns-in n [] ads σ = refl
  turns-in n (j ∷ js) [] σ = refl
  turns-in n (j ∷ js) (true ∷ ads) σ =
      ap (λ (ts : List Turn). ran j.steps (job_in order (day_label_over n bs) j σ) ∷ ts) (turns-in n js ads (store_in order (day_label_over n bs) j σ))
  turns-in n (j ∷ js) (false ∷ ads) σ = ap (λ (ts : List Turn). skipped ∷ ts) (turns-in n js ads σ)

  pub day-in : (n : ℕ) → day_turns_over n bs ≡ day_in order (day_label_over n bs)
  unfolding day_turns_over day_in inputs_over
  day-in n = turns-in n (jobs_of_day bs) (day_admitted bs) (first_store (day_label_over n bs))

  -- ── under a map ──

  module _ (h : Label → Label) (o q : Order) (K : KeepsOrder h o q) (ls : ℕ → Label) where
    abbrev mapped : ℕ → Label
    mapped i = h (ls i)

    inputs_mapped : inputs_in mapped ≡ map (input_under h) (inputs_in ls)
    inputs_mapped = inputs_under h ls (record_bytes_of (day_sections bs) bs) (day_header bs).records.count 0

    job_under : (j : Job) (σ : Store) → job_in q mapped j (store_under h σ) ≡ outcome_under h (job_in o ls j σ)
    unfolding job_in
    job_under j σ =
        ap (λ (xs : List Input). runs (program_in q (span bs j) mapped xs) start_control
        (start_account (mapped j.label) (mapped j.clearance) j.steps (day_header bs).records.count j.places) (store_under h σ))
        inputs_mapped
        ∙ runs_under h (program_in o (span bs j) ls (inputs_in ls)) (program_in q (span bs j) mapped (map (input_under h) (inputs_in ls)))
        (program_under h o q K (span bs j) ls (inputs_in ls)) start_control
        (start_account (ls j.label) (ls j.clearance) j.steps (day_header bs).records.count j.places) σ

    store_after : (j : Job) (σ : Store) → store_in q mapped j (store_under h σ) ≡ store_under h (store_in o ls j σ)
    store_after j σ =
        ap (λ (x : Outcome). end_job (day_header bs).records.count x.store) (job_under j σ)
        ∙ end-from h (day_header bs).records.count 0 (job_in o ls j σ).store

    turns_under : (js : List Job) (ads : List Bool) (σ : Store)
        → turns_in q mapped js ads (store_under h σ) ≡ map (turn_under h) (turns_in o ls js ads σ)
    unfolding turns_in
    turns_under [] ads σ = refl
    turns_under (j ∷ js) [] σ = refl
    turns_under (j ∷ js) (true ∷ ads) σ =
        ap₂ (λ (x : Outcome) (ts : List Turn). ran j.steps x ∷ ts) (job_under j σ)
        (ap (turns_in q mapped js ads) (store_after j σ) ∙ turns_under js ads (store_in o ls j σ))
    turns_under (j ∷ js) (false ∷ ads) σ = ap (λ (ts : List Turn). skipped ∷ ts) (turns_under js ads σ)

    first_store_under : first_store mapped ≡ store_under h (first_store ls)
    first_store_under =
        ap (λ (xs : List Input). start_store (input_slots xs)) inputs_mapped ∙ ap start_store (slots_under h (inputs_in ls))
        ∙ store-under h (input_slots (inputs_in ls))

    pub day_under : day_in q mapped ≡ map (turn_under h) (day_in o ls)
    unfolding day_in
    day_under =
        ap (turns_in q mapped (jobs_of_day bs) (day_admitted bs)) first_store_under ∙ turns_under (jobs_of_day bs) (day_admitted bs) (first_store ls)
