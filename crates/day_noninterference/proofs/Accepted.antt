-- A day with no refusal never meets the definition's totals: whatever state a job's run comes to, the instruction that stands
-- next is one of its span's, and the place that it asks for holds a record. So fault 33 starts only from contents.
use mathlib.Core.Bool.{Bool, true, false}
use mathlib.Core.List.{List, [], ◌∷◌}
use mathlib.Core.Path.{◌≡◌, refl}
use Prim.Native.Nat.{ℕ, ◌≤◌}
use native.Mathlib.Omega.{arith}
use lib.ListN.{length, length-take, length-drop}
use Rattle.labels.specs.Order.{flows}
use Rattle.model.specs.State.{Control, Store}
use Rattle.model.specs.declared.Account.{Account}
use Rattle.model.specs.Decoding.{u16}
use Rattle.model.specs.Inputs.{input_slots}
use Rattle.model.specs.Running.{start_control, start_store}
use Rattle.model.proofs.Reached.{Reached, any_label}
use Rattle.model.proofs.Cap.{Capped, cap_holds, cap_at_end}
use Rattle.view_fields.specs.Fields.{little_endian}
use Rattle.view.proofs.LengthField.{length_field_places}
use Rattle.day_file.specs.Sections.{day_header, day_label, day_inputs, jobs_of_day, span}
use Rattle.day_file.specs.Checks.{span_ok, day_refusal}
use Rattle.day_file.specs.declared.Job.{Job}
use Rattle.day_file.proofs.Limits.{Fits}
use Rattle.day_file.proofs.Tests.{AllJobs, all_map}
use Rattle.day_file.proofs.Answers.{within-limits, in_place, jobs-fit, spans_fit}
use Rattle.admission.specs.Admission.{day_admitted}
use Rattle.day_jobs.specs.Running.{job_program, job_program_over, job_account, job_account_over, job_run, job_run_over, store_after, Turn, skipped, ran, turns, turns_over, day_turns, day_turns_over}
use Rattle.day.specs.Views.{skipped_view, skipped_view_over, turn_view, turn_view_over}
use Rattle.day_jobs.proofs.Between.{Free, count_inputs, start_free, job_fresh, job_sized, after_free}
use Rattle.noninterference.proofs.Demand3.{preorder}
use Rattle.noninterference.proofs.Accepted.{OnCode, every_label, reached_on_code, start_closed}
use Rattle.day_noninterference.proofs.JobEnd.{other_program}
use Rattle.day_noninterference.proofs.Turns.{Between, between_jobs, after_between}

-- ── the states between jobs ──

-- The day comes to a store with these jobs left, of which these are admitted.
pub data Comes (bs : List ℕ) : List Job → List Bool → Store → Type 0 where
  starts : Comes bs (jobs_of_day bs) (day_admitted bs) (start_store (input_slots (day_inputs bs)))
  skips : {j : Job} {js : List Job} {ads : List Bool} {σ : Store} → Comes bs (j ∷ js) (false ∷ ads) σ → Comes bs js ads σ
  ends : {j : Job} {js : List Job} {ads : List Bool} {σ : Store} → Comes bs (j ∷ js) (true ∷ ads) σ → Comes bs js ads (store_after bs j σ)

abbrev pub AllTurns : (Turn → Type 0) → List Turn → Type 0
AllTurns P [] = Unit {0}
AllTurns P (t ∷ ts) = P t × AllTurns P ts

-- Each turn of the day is one of these: of a job that is skipped, or the run of one from a store that the day comes to.
pub data Given (bs : List ℕ) : Turn → Type 0 where
  no_run : Given bs skipped
  a_run : {j : Job} {js : List Job} {ads : List Bool} {σ : Store} → Comes bs (j ∷ js) (true ∷ ads) σ → Given bs (ran j.steps (job_run bs j σ))

turns_given : (bs : List ℕ) (js : List Job) (ads : List Bool) (σ : Store) → Comes bs js ads σ → AllTurns (Given bs) (turns bs js ads σ)
unfolding turns_over
turns_given bs [] ads σ h = tt
turns_given bs (j ∷ js) [] σ h = tt
turns_given bs (j ∷ js) (true ∷ ads) σ h = (a_run h, turns_given bs js ads (store_after bs j σ) (ends h))
turns_given bs (j ∷ js) (false ∷ ads) σ h = (no_run, turns_given bs js ads σ (skips h))

pub day_given : (bs : List ℕ) → AllTurns (Given bs) (day_turns bs)
unfolding day_turns_over
day_given bs = turns_given bs _ _ _ starts

module _ (bs : List ℕ) (none : day_refusal bs ≡ 0) where
  -- what holds of each state between jobs
  record Sound (js : List Job) (σ : Store) : Type 0 where
    fit : AllJobs (Fits (day_header bs) (day_label bs)) js
    pass : AllJobs (λ j. span_ok bs j ≡ true) js
    between : Between bs any_label σ σ

  comes_sound : {js : List Job} {ads : List Bool} {σ : Store} → Comes bs js ads σ → Sound js σ
  comes_sound starts =
      let few = (within-limits bs none).records in
      let free = start_free bs (day_inputs bs) (count_inputs bs) (omega arith) in
      record {
        fit = jobs-fit bs none;
        pass = spans_fit bs none;
        between = record { left = free; right = free; same = start_closed (between_jobs bs) (day_inputs bs) refl };
      }
  comes_sound (skips h) = let s = comes_sound h in record { fit = s.fit.1; pass = s.pass.1; between = s.between }
  comes_sound (ends {j = j} {σ = σ} h) =
      let s = comes_sound h in
      record {
        fit = s.fit.1;
        pass = s.pass.1;
        between = after_between bs any_label (every_label [] (day_label bs) (day_inputs bs)) j s.fit.0.places σ σ s.between;
      }

  span_there : (j : Job) → Fits (day_header bs) (day_label bs) j → 1 ≤ length (span bs j)
  unfolding span
  span_there j f = simp (length-take, length-drop) (omega (arith, f.some_code, f.inside, (in_place bs none).whole))

  -- Accepted days never meet the totals.
  pub day_accepted : {j : Job} {js : List Job} {ads : List Bool} {σ : Store} → Comes bs (j ∷ js) (true ∷ ads) σ
      → (c : Control) (a : Account) (τ : Store) → Reached (job_program bs j) start_control (job_account bs j) σ c a τ
      → OnCode (day_header bs).labels.count (day_header bs).records.count (span bs j) (job_program bs j) c τ
  unfolding job_program_over span_ok
  day_accepted {j = j} {σ = σ} h =
      let s = comes_sound h in
      reached_on_code (day_header bs).labels.count (day_header bs).records.count (span bs j) (day_label bs) (day_inputs bs) s.pass.0
      (span_there j s.fit.0) (job_account bs j) σ (job_fresh bs j σ s.fit.0.places s.between.left)
      (other_program (between_jobs bs) (job_program bs j) any_label σ σ refl s.between.same)

  -- The cap holds of admitted jobs, each with its own starting clearance.
  pub job_capped : {j : Job} {js : List Job} {ads : List Bool} {σ : Store} → Comes bs (j ∷ js) (true ∷ ads) σ
      → (c : Control) (a : Account) (τ : Store) → Reached (job_program bs j) start_control (job_account bs j) σ c a τ
      → Capped (job_program bs j) (day_label bs j.clearance) c a
  unfolding job_program_over job_account_over
  job_capped {j = j} {σ = σ} h =
      cap_holds (job_program bs j) (preorder (span bs j) (day_label bs) (day_inputs bs)) start_control (job_account bs j) σ refl (comes_sound h).fit.0.starts

  pub job_ends_capped : {j : Job} {js : List Job} {ads : List Bool} {σ : Store} → Comes bs (j ∷ js) (true ∷ ads) σ
      → (flows (job_run bs j σ).account.label (job_run bs j σ).account.clearance ≡ true)
      × (flows (job_run bs j σ).account.clearance (day_label bs j.clearance) ≡ true)
  unfolding job_program_over job_account_over job_run_over
  job_ends_capped {j = j} {σ = σ} h =
      cap_at_end (job_program bs j) (preorder (span bs j) (day_label bs) (day_inputs bs)) start_control (job_account bs j) σ refl (comes_sound h).fit.0.starts

-- ── the length fields ──

-- a turn's view has as many bytes as its length field says
abbrev pub LengthTold : List ℕ → ℕ → Turn → Type 0
LengthTold bs i t = u16 (turn_view (λ l. flows l (day_label bs i)) t) 10 ≡ length (turn_view (λ l. flows l (day_label bs i)) t)

skipped_length : u16 skipped_view 10 ≡ length skipped_view
unfolding skipped_view_over u16 little_endian
skipped_length = refl

module _ (bs : List ℕ) (i : ℕ) where
  turn_lengths : (js : List Job) (ads : List Bool) (σ : Store) → AllJobs (λ j. j.places ≤ 256) js → Free (day_header bs).records.count σ
      → AllTurns (LengthTold bs i) (turns bs js ads σ)
  unfolding turns_over turn_view_over
  turn_lengths [] ads σ fit free = tt
  turn_lengths (j ∷ js) [] σ fit free = tt
  turn_lengths (j ∷ js) (true ∷ ads) σ fit free = (
    length_field_places (λ l. flows l (day_label bs i)) j.steps (job_run bs j σ) (omega (arith, job_sized bs j fit.0 σ free)),
    turn_lengths js ads (store_after bs j σ) fit.1 (after_free bs j fit.0 σ free),
  )
  turn_lengths (j ∷ js) (false ∷ ads) σ fit free = (skipped_length, turn_lengths js ads σ fit.1 free)

  -- "A view is as many bytes as its length field says", each of a day's.
  pub day_view_lengths : day_refusal bs ≡ 0 → AllTurns (LengthTold bs i) (day_turns bs)
  unfolding day_turns_over
  day_view_lengths none =
      turn_lengths (jobs_of_day bs) (day_admitted bs) (start_store (input_slots (day_inputs bs)))
      (all_map (λ j f. f.places) (jobs_of_day bs) (jobs-fit bs none))
      (start_free bs (day_inputs bs) (count_inputs bs) (omega (arith, (within-limits bs none).records)))
