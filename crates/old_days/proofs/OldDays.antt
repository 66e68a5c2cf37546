-- Old days run alike. A day that no check stops over six principals is stopped by none over eight; the same jobs are skipped, and
-- the run of each other one is the same but for the labels, each of which has its tables repeated in four words; and its views,
-- for any reader, show the same.
use mathlib.Core.Bool.{Bool, true}
use mathlib.Core.List.{List, [], ◌∷◌, ◌++◌, map}
use mathlib.Core.Path.{◌≡◌, refl, sym, ap, ap₂, ◌∙◌}
use Prim.Native.Nat.{ℕ, ◌≤◌, ◌<◌}
use borrow.Author.Tests.{lt-ltb, le-leb}
use lib.ListN.{length, drop}
use Rattle.labels.specs.Tables.{principals}
use Rattle.labels.specs.Order.{flows}
use Rattle.labels.specs.declared.Label.{Label}
use Rattle.std.specs.Prelude.{Ok}
use Rattle.day_file.specs.Sections.{day_header, day_sections, day_label_over, day_label, jobs_of_day}
use Rattle.day_file.specs.Checks.{passes1, passes2, passes3, passes4_over, passes10_over, passes6, passes7, job_ok, jobs_ok, check, day_refusal_over, day_refusal}
use Rattle.day_file.specs.declared.Header.{Header}
use Rattle.day_file.specs.declared.Job.{Job}
use Rattle.day_file.proofs.Tests.{none_stops}
use Rattle.day_jobs.specs.Running.{Turn, day_turns_over, day_turns}
use Rattle.day.specs.Views.{day_view_over, day_view, day_reading}
use Rattle.old_files.specs.Repeating.{repeated}
use Rattle.old_files.proofs.Tables.{low}
use Rattle.old_files.proofs.Order.{order, low_order, low_keeps, repeated_keeps}
use Rattle.old_files.proofs.Labels.{flows_alike, labels_still_pass, six_low, label_alike, still_flows}
use Rattle.old_days.specs.Contents.{JobContents, turn_contents, day_contents, day_layout, turn_under, job_contents_under}
use Rattle.old_days.proofs.Jobs.{day_in, day-in, day_under}
use Rattle.old_days.proofs.Views.{turns_laid_out, turns_contents, turns_twice, jobs_twice}

-- check 10 asks of labels only which flow to which
module _ (h : Header) (ls ms : ℕ → Label) (same : (i j : ℕ) → flows (ls i) (ls j) ≡ flows (ms i) (ms j)) where
  job_same : (j : Job) → job_ok h ls j ≡ job_ok h ms j
  unfolding job_ok
  job_same j = rw (same j.label j.clearance)

  each_same : (js : List Job) → map (job_ok h ls) js ≡ map (job_ok h ms) js
  each_same [] = refl
  each_same (j ∷ js) = ap₂ (λ (b : Bool) (bs : List Bool). b ∷ bs) (job_same j) (each_same js)

  jobs_same : (js : List Job) → jobs_ok h ls js ≡ jobs_ok h ms js
  unfolding jobs_ok
  jobs_same js = rw (each_same js)

module _ (bs : List ℕ) (loads : day_refusal_over 6 bs ≡ 0) where
  -- the checks from 4 on, by what 4 and 10 find
  abbrev from4 : Bool → Bool → ℕ
  from4 s t = check 4 s (check 10 t (check 6 (passes6 bs) (check 7 (passes7 bs) 0)))

  -- over six its labels pass
  labels_pass : passes4_over 6 bs ≡ true
  unfolding day_refusal_over
  labels_pass =
      let four = from4 (passes4_over 6 bs) (passes10_over 6 bs) in
      let p1 = none_stops 0 (passes1 bs) (check 2 (passes2 bs) (check 3 (passes3 bs) four)) loads in
      let p2 = none_stops 1 (passes2 bs) (check 3 (passes3 bs) four) p1.1 in
      let p3 = none_stops 2 (passes3 bs) four p2.1 in
      (none_stops 3 (passes4_over 6 bs) (check 10 (passes10_over 6 bs) (check 6 (passes6 bs) (check 7 (passes7 bs) 0))) p3.1).0

  -- label i over six
  abbrev six : ℕ → Label
  six = day_label_over 6 bs

  low_six : (i : ℕ) → low (six i) ≡ six i
  unfolding passes4_over
  low_six = six_low (day_sections bs) bs labels_pass

  pub is_repeated : (i : ℕ) → day_label bs i ≡ repeated (six i)
  unfolding passes4_over
  is_repeated = label_alike (day_sections bs) bs labels_pass

  -- ── it loads ──

  label_entries_still_pass : passes4_over principals bs ≡ true
  unfolding passes4_over
  label_entries_still_pass = labels_still_pass (day_sections bs) bs labels_pass

  jobs_still_pass : passes10_over principals bs ≡ passes10_over 6 bs
  unfolding passes4_over passes10_over
  jobs_still_pass = jobs_same (day_header bs) (day_label bs) six (still_flows (day_sections bs) bs labels_pass) (jobs_of_day bs)

  pub still_loads : day_refusal bs ≡ 0
  unfolding day_refusal_over
  still_loads =
      ap₂ (λ (s t : Bool). check 1 (passes1 bs) (check 2 (passes2 bs) (check 3 (passes3 bs) (from4 s t))))
      (label_entries_still_pass ∙ sym labels_pass) jobs_still_pass ∙ loads

  -- ── its jobs ──

  -- by the lowest words alone: the turns over six and those over eight are both these, with their labels mapped
  low_turns : List Turn
  low_turns = day_in bs low_order six

  six_turns : day_turns_over 6 bs ≡ map (turn_under low) low_turns
  unfolding low_turns
  six_turns = day-in bs 6 ∙ ap (day_in bs order) (λ k i. sym (low_six i) k) ∙ day_under bs low low_order order low_keeps six

  eight_turns : day_turns bs ≡ map (turn_under repeated) low_turns
  unfolding low_turns
  eight_turns = day-in bs principals ∙ ap (day_in bs order) (λ k i. is_repeated i k) ∙ day_under bs repeated low_order order repeated_keeps six

  -- the same are skipped; of each other one, ending, account and every record
  pub same_turns : day_turns bs ≡ map (turn_under repeated) (day_turns_over 6 bs)
  same_turns = eight_turns ∙ sym (ap (map (turn_under repeated)) six_turns ∙ turns_twice low repeated low_turns)

  -- ── what views of it show ──

  module _ (i : ℕ) where
    -- by the lowest words alone
    abbrev sees : Label → Bool
    sees l = flows (low l) (low (six i))

    abbrev both : List JobContents
    both = map (turn_contents sees) low_turns

    six_contents : day_contents 6 bs i ≡ map (job_contents_under low) both
    six_contents =
        ap₂ (λ (r : Label) (ts : List Turn). map (turn_contents (λ l. flows l r)) ts) (sym (low_six i)) six_turns
        ∙ turns_contents low sees (λ l. flows l (low (six i))) (λ l. refl) low_turns

    eight_contents : day_contents principals bs i ≡ map (job_contents_under repeated) both
    eight_contents =
        ap₂ (λ (r : Label) (ts : List Turn). map (turn_contents (λ l. flows l r)) ts) (is_repeated i) eight_turns
        ∙ turns_contents repeated sees (λ l. flows l (repeated (six i))) (λ l. flows_alike l (six i)) low_turns

    -- job by job: the same endings, counts, places, kinds, numbers and handles, and the repeated labels
    pub same_contents : day_contents principals bs i ≡ map (job_contents_under repeated) (day_contents 6 bs i)
    same_contents = eight_contents ∙ sym (ap (map (job_contents_under repeated)) six_contents ∙ jobs_twice low repeated both)

    -- in the old views' widths, and in the new ones'
    pub old_views : day_view_over 6 bs i ≡ day_layout 6 (day_contents 6 bs i)
    unfolding day_view_over
    old_views = turns_laid_out 6 (λ l. flows l (six i)) (day_turns_over 6 bs)

    pub new_views : day_view bs i ≡ day_layout principals (map (job_contents_under repeated) (day_contents 6 bs i))
    unfolding day_view_over
    new_views = turns_laid_out principals (λ l. flows l (day_label bs i)) (day_turns bs) ∙ ap (day_layout principals) same_contents

    -- given room, it is read
    pub still_read : (buffer : List ℕ) → i < (day_header bs).labels.count → length (day_view bs i) ≤ length buffer
        → day_reading bs i buffer ≡ record { answer = Ok (length (day_view bs i)); buffer = day_view bs i ++ drop (length (day_view bs i)) buffer }
    unfolding day_reading
    still_read buffer h room = rw (still_loads, lt-ltb i (day_header bs).labels.count h, le-leb (length (day_view bs i)) (length buffer) room)
