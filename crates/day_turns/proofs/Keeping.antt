-- The loop over the jobs of a day that is run once: what is kept of the jobs below k.
use Rattle.std.specs.Prelude.{Option, None}
use mathlib.Core.Bool.{Bool, true, false}
use mathlib.Core.List.{List, ◌∷◌}
use mathlib.Core.Logic.{⊎_elim}
use mathlib.Core.Path.{◌≡◌, refl, sym, ap, subst, ◌∙◌}
use Prim.Native.Nat.{ℕ, ◌+◌, ◌≤◌, ◌<◌}
use native.Mathlib.Omega.{arith}
use lib.ListN.{length, get_or, drop, set, length-set, length-drop}
use lib.Seq.{get_or-set_same, get_or-set_other}
use Rattle.formulas.proofs.Tests.{lt_or_ge}
use Rattle.model.specs.State.{Store}
use Rattle.model.specs.Inputs.{input_slots}
use Rattle.model.specs.Running.{start_store}
use Rattle.model.specs.declared.Finished.{Finished}
use Rattle.machine.specs.Steps.{Finishes}
use Rattle.view.specs.Writing.{finished}
use Rattle.day_file.specs.declared.Job.{Job}
use Rattle.day_file.specs.Sections.{day_header, day_inputs}
use Rattle.admission.specs.declared.Allowance.{Allowance}
use Rattle.admission.specs.Admission.{fits, allowed, left_after, day_admitted}
use Rattle.admission.specs.Allowances.{allowance_of, callers_after, allowances_of}
use Rattle.admission.proofs.Allowances.{Holds, at_first, answered, holds_then}
use Rattle.day_jobs.specs.Running.{Turn, skipped, ran, job_run, store_after, turns_over, day_turns, day_turns_over}
use Rattle.day_jobs.proofs.Turns.{turns_from, turn_skipped, turn_ran, jobs_left, job, all_left, next_job, none_left}
use Rattle.day.specs.Views.{turn_view, turn_view_over}
use Rattle.day.proofs.Views.{served_view}
use Rattle.day_turns.specs.Keeping.{turn_of, SameViews, Kept}
use Rattle.day_turns.specs.declared.kept.KeptJob.{KeptJob}
use Rattle.day_turns.proofs.Lists.{at_within, at_is, behind_is}

-- a job that ended so shows any reader what its run does
pub shown_same : (bs : List ℕ) (j : Job) (σ : Store) (f : Finished) (τ : Store) → Finishes f τ (job_run bs j σ)
    → SameViews (ran j.steps (finished f τ)) (ran j.steps (job_run bs j σ))
unfolding turn_view_over
shown_same bs j σ f τ fin Reads = served_view Reads bs j σ f τ fin

module _ (bs : List ℕ) where
  abbrev n : ℕ
  n = (day_header bs).jobs.count

  abbrev first : ℕ
  first = (day_header bs).jobs.offset

  abbrev pub job_at : ℕ → Job
  job_at k = job bs first n k

  -- job k's turn is kept
  abbrev KeptAt : List (Option KeptJob) → ℕ → Type 0
  KeptAt kept k = SameViews (turn_of (get_or kept k None)) (get_or (day_turns bs) k skipped)

  -- the turns from job k on, with so many steps left to each caller and the records in σ
  abbrev turns_left : ℕ → (ℕ → ℕ) → Store → List Turn
  turns_left k left σ = turns_from bs (jobs_left bs first n k) left σ

  -- The turns of the jobs below k are kept; those from k on are still to come.
  pub record Keeping (kept : List (Option KeptJob)) (σ : Store) (callers : List Allowance) (k : ℕ) : Type 0 where
    pub left : ℕ → ℕ
    pub allowances : Holds callers left
    pub below : k ≤ n
    pub enough : k ≤ length (day_turns bs)
    pub size : length kept ≡ 16
    pub rest : drop k (day_turns bs) ≡ turns_left k left σ
    pub each : (j : ℕ) → j < k → KeptAt kept j

  pub none_kept : (kept : List (Option KeptJob)) (σ : Store) (callers : List Allowance) → length kept ≡ 16
      → callers ≡ allowances_of (day_header bs).steps → σ ≡ start_store (input_slots (day_inputs bs)) → Keeping kept σ callers 0
  unfolding day_turns_over day_admitted
  none_kept kept σ callers z e s =
      record {
        left = allowed (day_header bs).steps;
        allowances = rw e (at_first (day_header bs).steps);
        below = omega arith;
        enough = omega arith;
        size = z;
        rest = rw (s, all_left bs first n);
        each = λ j h. absurd (omega arith);
      }

  module _ {kept : List (Option KeptJob)} {σ : Store} {callers : List Allowance} {k : ℕ} (w : Keeping kept σ callers k) (h : k < n) (room : k < 16) where
    -- job k has its turn t, of which x is kept
    more : (x : Option KeptJob) {t : Turn} {τ : Store} {callers' : List Allowance} {left' : ℕ → ℕ} → Holds callers' left'
        → drop k (day_turns bs) ≡ t ∷ turns_left (k + 1) left' τ → SameViews (turn_of x) t → Keeping (set kept k x) τ callers' (k + 1)
    more x {t} {left' = left'} held d new =
        record {
          left = left';
          allowances = held;
          below = omega arith;
          enough = omega (arith, at_within (day_turns bs) k d);
          size = length-set kept k x ∙ w.size;
          rest = behind_is (day_turns bs) k d;
          each = λ j l. ⊎_elim (old j) (λ g. subst (KeptAt (set kept k x)) (let e : k ≡ j = omega arith in e) here) (lt_or_ge j k);
        }
      where
        old : (j : ℕ) → j < k → KeptAt (set kept k x) j
        old j g Reads = rw (get_or-set_other kept k j x None (λ q. omega arith)) (w.each j g Reads)

        here : KeptAt (set kept k x) k
        here Reads =
            rw (get_or-set_same kept k x None (omega (arith, w.size))) (new Reads)
            ∙ ap (turn_view Reads) (sym (at_is (day_turns bs) k d skipped))

    -- job k is j, and is answered so
    module _ {j : Job} (is : j ≡ job_at k) (caller : j.caller < 16)
        {callers' : List Allowance} (then : callers' ≡ callers_after callers j.caller j.steps) where
      abbrev Answered : Bool → Type 0
      Answered t = fits (allowance_of callers j.caller).left j.steps ≡ t

      as_answered : {t : Bool} → Answered t → fits (w.left j.caller) j.steps ≡ t
      as_answered s = sym (answered w.allowances j caller) ∙ s

      allowances_then : Holds callers' (left_after w.left j)
      allowances_then = rw then (holds_then w.allowances j caller)

      -- the turns from job k on
      turns_here : drop k (day_turns bs) ≡ turns_from bs (j ∷ jobs_left bs first n (k + 1)) w.left σ
      turns_here = rw is (w.rest ∙ ap (λ (js : List Job). turns_from bs js w.left σ) (next_job bs first n k h))

      pub one_skipped : Answered false → Keeping (set kept k None) σ callers' (k + 1)
      one_skipped s =
          more None allowances_then
          (turns_here ∙ turn_skipped bs j (jobs_left bs first n (k + 1)) w.left σ (as_answered s)) (λ Reads. refl)

      pub one_ran : Answered true → (x : Option KeptJob) → SameViews (turn_of x) (ran j.steps (job_run bs j σ)) → {τ : Store} → τ ≡ store_after bs j σ
          → Keeping (set kept k x) τ callers' (k + 1)
      one_ran s x seen next =
          rw next
          (more x allowances_then
          (turns_here ∙ turn_ran bs j (jobs_left bs first n (k + 1)) w.left σ (as_answered s)) seen)

  pub all_kept : {kept : List (Option KeptJob)} {σ : Store} {callers : List Allowance} {k : ℕ} → Keeping kept σ callers k → n ≤ k → Kept bs kept
  unfolding turns_over
  all_kept {σ = σ} {k = k} w h =
      record {
        count =
            let e = ap length (w.rest ∙ ap (λ (js : List Job). turns_from bs js w.left σ) (none_left bs first n k h)) in
            let l = length-drop k (day_turns bs) in
            omega (arith, w.enough, w.below);
        each = λ i l. w.each i (omega arith);
      }
