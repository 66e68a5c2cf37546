-- The three demands on a read of a day, as the open calls' contracts give them.
use mathlib.Core.Bool.{Bool, true, false}
use mathlib.Core.List.{List, [], ◌∷◌, ◌++◌}
use mathlib.Core.Logic.{◌⊎◌, inl, inr}
use mathlib.Core.Path.{◌≡◌, refl, sym, subst₂}
use Prim.Native.Nat.{ℕ, zero, suc, ◌+◌, ◌≤◌, ◌<◌}
use native.Mathlib.Omega.{arith}
use lib.ListN.{length, length-append, drop}
use Rattle.labels.specs.Order.{flows}
use Rattle.labels.specs.declared.Label.{Label}
use Rattle.model.specs.State.{Store}
use Rattle.model.specs.Inputs.{input_slots}
use Rattle.model.specs.Running.{start_store}
use Rattle.view.specs.Layout.{records_at, length_over}
use Rattle.view.specs.Reading.{Reading}
use Rattle.std.specs.Prelude.{Result, Ok}
use Rattle.file_sections.specs.declared.Refusal.{Refusal}
use Rattle.view.proofs.Widths.{length_view}
use Rattle.day_file.specs.declared.Job.{Job}
use Rattle.day_file.specs.Sections.{day_header, day_label, day_inputs, jobs_of_day, job_from, jobs_from}
use Rattle.day_file.specs.Checks.{day_refusal}
use Rattle.day_file.proofs.Limits.{Fits}
use Rattle.day_file.proofs.Tests.{AllJobs}
use Rattle.day_file.proofs.Answers.{refusal-most, refusal-not-5, few_jobs, jobs-fit}
use Rattle.admission.specs.Admission.{fits, day_admitted}
use Rattle.day_jobs.specs.Running.{job_program, job_account, job_account_over, store_after, Turn, skipped, ran, day_turns_over}
use Rattle.day.specs.Views.{turn_view, turn_view_over, each_turn, turn_views, day_view, day_view_over, day_reading}
use Rattle.day.proofs.Views.{length_skipped}
use Rattle.day_jobs.proofs.Turns.{turns_from, turn_skipped, turn_ran}
use Rattle.noninterference.specs.Alike.{SameReads}
use Rattle.day_noninterference.specs.Alike.{DayAlike}
use Rattle.day_noninterference.proofs.Demand3.{day_demand_3}
use Rattle.reading.specs.Answers.{reads, code_of}
use Rattle.monitor.specs.Calls.{DayRefusal, told, SameCalls}
use Rattle.monitor.proofs.Answered.{IsRefused, viewed, Numbers, refused_or_viewed, answered_viewed, Bounded, answered_bounded, told_bounded, same_calls}
use Rattle.monitor.proofs.Charged.{Charged, charged}

-- ── demand 1: total ──

-- Each job is skipped, or run to a result, a fault or spent steps within its declared steps and its places.
abbrev pub EachJob : List ℕ → List Job → List Bool → Store → Type 0
EachJob bs [] ads σ = Unit {0}
EachJob bs (j ∷ js) [] σ = Unit {0}
EachJob bs (j ∷ js) (true ∷ ads) σ = Charged (job_program bs j) (job_account bs j) σ × EachJob bs js ads (store_after bs j σ)
EachJob bs (j ∷ js) (false ∷ ads) σ = EachJob bs js ads σ

-- the views of a day, whose jobs are each skipped or run
pub record IsDayViewed (bs : List ℕ) (i : ℕ) (b : List ℕ) (q : Reading) : Type 0 where
  pub jobs : EachJob bs (jobs_of_day bs) (day_admitted bs) (start_store (input_slots (day_inputs bs)))
  pub shown : q ≡ record { answer = Ok (length (day_view bs i)); buffer = day_view bs i ++ drop (length (day_view bs i)) b }

day_numbers : (bs : List ℕ) → Numbers DayRefusal (day_refusal bs)
day_numbers bs =
    record {
      checks = λ some. (some, refusal-most bs, refusal-not-5 bs);
      reader = (omega arith, omega arith, λ e. omega arith);
      buffer = (omega arith, omega arith, λ e. omega arith);
    }

module _ (bs : List ℕ) where
  each_job : (js : List Job) (ads : List Bool) (σ : Store) → AllJobs (Fits (day_header bs) (day_label bs)) js → EachJob bs js ads σ
  unfolding job_account_over
  each_job [] ads σ fit = tt
  each_job (j ∷ js) [] σ fit = tt
  each_job (j ∷ js) (true ∷ ads) σ fit = (charged (job_program bs j) (job_account bs j) σ fit.0.inputs_fit, each_job js ads (store_after bs j σ) fit.1)
  each_job (j ∷ js) (false ∷ ads) σ fit = each_job js ads σ fit.1

  all_jobs : day_refusal bs ≡ 0 → EachJob bs (jobs_of_day bs) (day_admitted bs) (start_store (input_slots (day_inputs bs)))
  all_jobs none =
      each_job (jobs_of_day bs) (day_admitted bs) (start_store (input_slots (day_inputs bs))) (jobs-fit bs none)

  module _ (i : ℕ) (b : List ℕ) where
    pub day_demand_1 : IsRefused DayRefusal b (day_reading bs i b) ⊎ IsDayViewed bs i b (day_reading bs i b)
    unfolding day_reading
    day_demand_1 =
        either (refused_or_viewed DayRefusal (day_refusal bs) (day_header bs).labels.count (day_view bs i) i b (day_numbers bs))
      where
        either : IsRefused DayRefusal b (day_reading bs i b) ⊎ ((day_refusal bs ≡ 0) × (day_reading bs i b ≡ viewed (day_view bs i) b))
            → IsRefused DayRefusal b (day_reading bs i b) ⊎ IsDayViewed bs i b (day_reading bs i b)
        either (inl r) = inl r
        either (inr v) = inr (record { jobs = all_jobs v.0; shown = v.1 })

    -- ── demand 2: exact ──

    -- A day that no check stops is run by the rules: the answer and the whole buffer are those of its jobs' views.
    pub day_demand_2 : day_refusal bs ≡ 0 → i < (day_header bs).labels.count → length (day_view bs i) ≤ length b
        → day_reading bs i b ≡ record { answer = Ok (length (day_view bs i)); buffer = day_view bs i ++ drop (length (day_view bs i)) b }
    unfolding day_reading
    day_demand_2 = answered_viewed DayRefusal (day_refusal bs) (day_header bs).labels.count (day_view bs i) i b

-- ── demand 3: silent, on two calls ──

pub two_day_calls : (bs cs : List ℕ) (i : ℕ) (b d : List ℕ) (r q : Result ℕ Refusal) (out back : List ℕ)
    → reads r out ≡ day_reading bs i b → reads q back ≡ day_reading cs i d
    → DayAlike bs cs i → length b ≡ length d → SameReads b d (reads r out) (reads q back)
two_day_calls bs cs i b d r q out back e f A h = subst₂ (SameReads b d) (sym e) (sym f) (day_demand_3 bs cs i b d A h)

-- ── the call for C and Rust, which answers one number ──

module _ (Reads : Label → Bool) (bs : List ℕ) where
  -- a view has 206 bytes at least
  turn_least : (t : Turn) → records_at ≤ length (turn_view Reads t)
  unfolding turn_view_over length_over
  turn_least skipped = omega (arith, length_skipped)
  turn_least (ran s o) = omega (arith, length_view Reads s o)

  first_least : (t : Turn) (ts : List Turn) → records_at ≤ length (turn_views Reads (t ∷ ts))
  unfolding each_turn
  first_least t ts = omega (arith, turn_least t, length-append (turn_view Reads t) (turn_views Reads ts))

  -- and some jobs have one
  views_least : (n at : ℕ) (left : ℕ → ℕ) (σ : Store) → 1 ≤ n → records_at ≤ length (turn_views Reads (turns_from bs (jobs_from bs n at) left σ))
  unfolding jobs_from
  views_least zero at left σ h = absurd (omega arith)
  views_least (suc n) at left σ h = test (fits (left (job_from bs at).caller) (job_from bs at).steps) refl
    where
      test : (t : Bool) → fits (left (job_from bs at).caller) (job_from bs at).steps ≡ t
          → records_at ≤ length (turn_views Reads (turns_from bs (job_from bs at ∷ jobs_from bs n (at + 12)) left σ))
      test false e = rw (turn_skipped bs (job_from bs at) (jobs_from bs n (at + 12)) left σ e) (first_least _ _)
      test true e = rw (turn_ran bs (job_from bs at) (jobs_from bs n (at + 12)) left σ e) (first_least _ _)

day_least : (bs : List ℕ) (i : ℕ) → day_refusal bs ≡ 0 → records_at ≤ length (day_view bs i)
unfolding day_view_over day_turns_over day_admitted
day_least bs i none = views_least (λ l. flows l (day_label bs i)) bs _ _ _ _ (few_jobs bs none).0

day_bounded : (bs : List ℕ) (i : ℕ) (b : List ℕ) → Bounded DayRefusal (day_reading bs i b).answer
unfolding day_reading
day_bounded bs i b =
    answered_bounded DayRefusal (λ n h. (h.0, omega (arith, h.1))) (day_refusal bs) (day_header bs).labels.count (day_view bs i) i b (day_numbers bs) (day_least bs i)

-- The number tells the answer.
pub day_code_tells : (bs : List ℕ) (i : ℕ) (b : List ℕ) → told (code_of (day_reading bs i b).answer) ≡ (day_reading bs i b).answer
day_code_tells bs i b = told_bounded DayRefusal (day_reading bs i b).answer (day_bounded bs i b)

-- Demand 3 on two calls of it.
pub two_day_c_calls : (bs cs : List ℕ) (i : ℕ) (b d : List ℕ) (r q : ℕ) (out back : List ℕ)
    → r ≡ code_of (day_reading bs i b).answer → out ≡ (day_reading bs i b).buffer
    → q ≡ code_of (day_reading cs i d).answer → back ≡ (day_reading cs i d).buffer
    → DayAlike bs cs i → length b ≡ length d → SameCalls DayRefusal b d r out q back
two_day_c_calls bs cs i b d r q out back er eo eq eb A h =
    rw (er, eo, eq, eb) (same_calls DayRefusal b d (day_reading bs i b) (day_reading cs i d) (day_bounded bs i b) (day_demand_3 bs cs i b d A h))
