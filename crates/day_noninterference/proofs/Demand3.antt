-- Demand 3 over a whole day: one claim about two reads of two days. "A dealer's views still tell nothing of hidden numbers,
-- over the whole day."
use mathlib.Core.Bool.{Bool, true, false}
use mathlib.Core.List.{List, [], ◌∷◌}
use mathlib.Core.Path.{◌≡◌, refl, sym, ap, ap₂, ◌∙◌, fun_ext}
use Prim.Native.Nat.{ℕ}
use native.Mathlib.Omega.{arith}
use lib.ListN.{length}
use Rattle.labels.specs.Order.{flows}
use Rattle.labels.specs.declared.Label.{Label}
use Rattle.model.specs.State.{Store, Outcome}
use Rattle.model.specs.Inputs.{input_slots}
use Rattle.model.specs.Running.{start_store}
use Rattle.model.proofs.Start.{AlikeInputs, alike_handles, start_equivalent}
use Rattle.day_file.specs.declared.Header.{Header}
use Rattle.day_file.specs.declared.Job.{Job}
use Rattle.day_file.specs.Sections.{day_header, day_sections, day_label, day_inputs, jobs_of_day}
use Rattle.day_file.specs.Checks.{span_ok, passes1, passes2, passes3, passes4_over, passes7, passes10_over, day_refusal, day_refusal_over}
use Rattle.day_file.proofs.Tests.{all_map}
use Rattle.day_file.proofs.Answers.{within-limits, jobs-fit}
use Rattle.admission.specs.Admission.{day_admitted}
use Rattle.admission.proofs.Callers.{by_jobs}
use Rattle.day_jobs.specs.Running.{job_program_over, job_account_over, job_run, job_run_over, store_after, store_after_over, skipped, ran, Turn, turns, turns_over, day_turns, day_turns_over}
use Rattle.day_jobs.specs.JobEnd.{end_job}
use Rattle.day.specs.Views.{turn_views, day_view, day_view_over, day_reading}
use Rattle.day_jobs.proofs.Between.{count_inputs, start_free}
use Rattle.noninterference.specs.Alike.{SameReads}
use Rattle.noninterference.proofs.Sections.{one_or_legible}
use Rattle.noninterference.proofs.Demand3.{readable, same_reads}
use Rattle.day_noninterference.specs.Alike.{day_legible, DayAlike}
use Rattle.day_noninterference.proofs.Sections.{day_legible_each, same_header, same_day_labels, same_day_label, alike_day_inputs, same_jobs, same_span}
use Rattle.day_noninterference.proofs.Turns.{Between, between_jobs, same_turns}

-- two days whose jobs run alike, of as many input records, have the same turns
turns_alike : (bs cs : List ℕ) → job_run bs ≡ job_run cs → (day_header bs).records.count ≡ (day_header cs).records.count
    → (js : List Job) (ads : List Bool) (σ : Store) → turns bs js ads σ ≡ turns cs js ads σ
unfolding turns_over store_after_over
turns_alike bs cs e n [] ads σ = refl
turns_alike bs cs e n (j ∷ js) [] σ = refl
turns_alike bs cs e n (j ∷ js) (true ∷ ads) σ =
    ap₂ (λ (o : Outcome) (ts : List Turn). ran j.steps o ∷ ts) (ap (λ (f : Job → Store → Outcome). f j σ) e)
    (turns_alike bs cs e n js ads (store_after bs j σ)
    ∙ ap₂ (λ (c : ℕ) (o : Outcome). turns cs js ads (end_job c o.store)) n (ap (λ (f : Job → Store → Outcome). f j σ) e))
turns_alike bs cs e n (j ∷ js) (false ∷ ads) σ = ap (λ (ts : List Turn). skipped ∷ ts) (turns_alike bs cs e n js ads σ)

-- ── two days that none of 1 to 4, 6 and 8 stops ──

module _ (bs cs : List ℕ) (i : ℕ) (A : DayAlike bs cs i) (lb : day_legible bs i ≡ true) (lc : day_legible cs i ≡ true) where
  he : day_header bs ≡ day_header cs
  he = same_header bs cs i A lb lc

  same_span_ok : span_ok bs ≡ span_ok cs
  unfolding span_ok
  same_span_ok = fun_ext (λ (j : Job). cc (he, ap (λ (f : Job → List ℕ). f j) (same_span bs cs i A lb lc)))

  same_refusal : day_refusal bs ≡ day_refusal cs
  unfolding day_refusal_over passes1 passes2 passes3 passes4_over passes10_over passes7
  same_refusal =
      let six = (day_legible_each bs i lb).1.1.1.1.0 in
      let six' = (day_legible_each cs i lc).1.1.1.1.0 in
      cc (A.sized, he, same_day_labels bs cs i A lb lc, same_day_label bs cs i A lb lc, same_jobs bs cs i A lb lc, same_span_ok, six, six')

  alike : AlikeInputs (λ l. flows l (day_label bs i)) (day_inputs bs) (day_inputs cs)
  alike = alike_day_inputs bs cs i A lb lc

  same_run : job_run bs ≡ job_run cs
  unfolding job_run_over job_program_over job_account_over
  same_run =
      let one = same_day_label bs cs i A lb lc in
      let two = alike_handles (λ l. flows l (day_label bs i)) 0 (day_inputs bs) (day_inputs cs) alike in
      fun_ext (λ (j : Job). fun_ext (λ (σ : Store). cc (he, one, two, ap (λ (f : Job → List ℕ). f j) (same_span bs cs i A lb lc))))

  -- the two days start from stores that the reader can't tell apart
  starts : day_refusal bs ≡ 0 → Between bs (λ l. flows l (day_label bs i)) (start_store (input_slots (day_inputs bs))) (start_store (input_slots (day_inputs cs)))
  starts none =
      let few = (within-limits bs none).records in
      record {
        left = start_free bs (day_inputs bs) (count_inputs bs) (omega arith);
        right = start_free bs (day_inputs cs) (count_inputs cs ∙ ap (λ (h : Header). h.records.count) (sym he)) (omega arith);
        same = start_equivalent (between_jobs bs) (λ l. flows l (day_label bs i)) (day_inputs bs) (day_inputs cs) alike refl;
      }

  views_alike : day_refusal bs ≡ 0 → day_view bs i ≡ day_view cs i
  unfolding day_view_over day_turns_over
  views_alike none =
      same_turns bs (λ l. flows l (day_label bs i)) (λ l. flows l (day_label bs i)) (λ l e. e) (readable [] (day_label bs) (day_inputs bs) (day_label bs i))
      (jobs_of_day bs) ads (start_store (input_slots (day_inputs bs))) start (all_map (λ j f. f.places) (jobs_of_day bs) (jobs-fit bs none)) (starts none)
      ∙ ap (turn_views (λ l. flows l (day_label bs i))) (turns_alike bs cs same_run (ap (λ (h : Header). h.records.count) he) (jobs_of_day bs) ads start)
      ∙ ap₂ (λ (js : List Job) (ys : List Bool). turn_views (λ l. flows l (day_label bs i)) (turns cs js ys start))
      (same_jobs bs cs i A lb lc) (by_jobs bs cs (ap (λ (h : Header). h.steps) he) (same_jobs bs cs i A lb lc))
      ∙ ap (λ (ls : ℕ → Label). turn_views (λ l. flows l (ls i)) (day_turns cs)) (same_day_label bs cs i A lb lc)
    where
      ads : List Bool
      ads = day_admitted bs

      start : Store
      start = start_store (input_slots (day_inputs cs))

-- ── demand 3 ──

-- Two days that are alike for a reading label's index, read with that index into buffers of one length: the same refusal
-- and both buffers as they were, or one view of every job and each buffer's rest as it was.
pub day_demand_3 : (bs cs : List ℕ) (i : ℕ) (b d : List ℕ) → DayAlike bs cs i → length b ≡ length d
    → SameReads b d (day_reading bs i b) (day_reading cs i d)
unfolding day_reading
day_demand_3 bs cs i b d A sized =
    one_or_legible day_legible day_sections bs cs i A (λ x. SameReads b d (day_reading bs i b) (day_reading x i d))
    (same_reads b d sized (day_refusal bs) (day_refusal bs) _ _ (day_view bs i) (day_view bs i) i refl refl (λ _. refl))
    (λ lb lc. same_reads b d sized (day_refusal bs) (day_refusal cs) _ _ (day_view bs i) (day_view cs i) i (same_refusal bs cs i A lb lc)
    (ap (λ (h : Header). h.labels.count) (same_header bs cs i A lb lc)) (views_alike bs cs i A lb lc))
