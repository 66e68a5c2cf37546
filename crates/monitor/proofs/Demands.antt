-- The three demands on a read of a plain file, as the open calls' contracts give them.
use mathlib.Core.List.{List, ◌++◌}
use mathlib.Core.Logic.{◌⊎◌, inl, inr}
use mathlib.Core.Path.{◌≡◌, sym, subst₂}
use Prim.Native.Nat.{ℕ, ◌+◌, ◌-◌, ◌≤◌, ◌<◌}
use native.Mathlib.Omega.{arith}
use lib.ListN.{length, drop}
use Rattle.labels.specs.Order.{flows}
use Rattle.model.specs.Inputs.{input_slots}
use Rattle.model.specs.Running.{start_store}
use Rattle.model.specs.declared.Ending.TheVariants.{Spent}
use Rattle.model.proofs.Costs.{Cost}
use Rattle.model.proofs.Bounds.{steps_of, places_of}
use Rattle.script_file.specs.Sections.{header, label_at}
use Rattle.script_file.specs.Checks.{refusal}
use Rattle.script_file.specs.Program.{file_inputs, file_program, file_account, file_run, file_account_over, file_run_over}
use Rattle.script_file.proofs.Answers.{refusal-most, within-limits}
use Rattle.view.specs.Layout.{records_at, length_over}
use Rattle.view.specs.Reading.{Reading, file_view, reading, file_view_over}
use Rattle.std.specs.Prelude.{Result, Ok}
use Rattle.file_sections.specs.declared.Refusal.{Refusal}
use Rattle.view.proofs.Widths.{length_view}
use Rattle.noninterference.specs.Alike.{Alike, SameReads}
use Rattle.noninterference.proofs.Demand3.{demand_3}
use Rattle.reading.specs.Answers.{reads, code_of}
use Rattle.monitor.specs.Calls.{FileRefusal, told, SameCalls}
use Rattle.monitor.proofs.Answered.{IsRefused, viewed, Numbers, refused_or_viewed, answered_viewed, Bounded, answered_bounded, told_bounded, same_calls}
use Rattle.monitor.proofs.Charged.{paid, Charged, charged}

-- ── demand 1: total ──

-- what the file's run pays for its instructions, one by one
unfoldable pub file_payments : List ℕ → List Cost
file_payments bs = paid (file_program bs) (file_account bs) (start_store (input_slots (file_inputs bs)))

-- A view of the file's run. A run ends in a result, a fault or spent steps: `Ending` has no other case.
pub record IsViewed (bs : List ℕ) (i : ℕ) (b : List ℕ) (q : Reading) : Type 0 where
  -- The steps used are those declared less those left, and were paid one by one, an instruction 1 at least. They are
  -- within those declared, and all of them where the run ended spent.
  pub steps_used : (header bs).steps - (file_run bs).account.steps ≡ steps_of (file_payments bs)
  pub steps_each : length (file_payments bs) ≤ steps_of (file_payments bs)
  pub steps_within : steps_of (file_payments bs) ≤ (header bs).steps
  pub steps_spent : (file_run bs).ending ≡ Spent → steps_of (file_payments bs) ≡ (header bs).steps
  -- The next place is behind the input records and the places taken, one by one, within those declared.
  pub places_taken : (file_run bs).account.next ≡ (header bs).records.count + places_of (file_payments bs)
  pub places_within : (file_run bs).account.next ≤ (header bs).places
  pub shown : q ≡ record { answer = Ok (length (file_view bs i)); buffer = file_view bs i ++ drop (length (file_view bs i)) b }

numbers : (bs : List ℕ) → Numbers FileRefusal (refusal bs)
numbers bs =
    record { checks = λ some. (some, omega (arith, refusal-most bs)); reader = (omega arith, omega arith); buffer = (omega arith, omega arith) }

module _ (bs : List ℕ) (i : ℕ) (b : List ℕ) where
  run_charged : refusal bs ≡ 0 → Charged (file_program bs) (file_account bs) (start_store (input_slots (file_inputs bs)))
  unfolding file_account_over
  run_charged z = charged (file_program bs) (file_account bs) (start_store (input_slots (file_inputs bs))) (within-limits bs z).inputs_fit

  is_viewed : (q : Reading) → refusal bs ≡ 0 → q ≡ viewed (file_view bs i) b → IsViewed bs i b q
  unfolding file_account_over file_run_over file_payments
  is_viewed q z e =
      let c = run_charged z in
      record {
        steps_used = c.steps_used;
        steps_each = c.steps_each;
        steps_within = c.steps_within;
        steps_spent = c.steps_spent;
        places_taken = c.places_taken;
        places_within = c.places_within;
        shown = e;
      }

  pub demand_1 : IsRefused FileRefusal b (reading bs i b) ⊎ IsViewed bs i b (reading bs i b)
  unfolding reading
  demand_1 = either (refused_or_viewed FileRefusal (refusal bs) (header bs).labels.count (file_view bs i) i b (numbers bs))
    where
      either : IsRefused FileRefusal b (reading bs i b) ⊎ ((refusal bs ≡ 0) × (reading bs i b ≡ viewed (file_view bs i) b))
          → IsRefused FileRefusal b (reading bs i b) ⊎ IsViewed bs i b (reading bs i b)
      either (inl r) = inl r
      either (inr v) = inr (is_viewed (reading bs i b) v.0 v.1)

  -- ── demand 2: exact ──

  -- A file clear of 1 to 9 is run by the rules: the answer and the whole buffer are those of its run's view.
  pub demand_2 : refusal bs ≡ 0 → i < (header bs).labels.count → length (file_view bs i) ≤ length b
      → reading bs i b ≡ record { answer = Ok (length (file_view bs i)); buffer = file_view bs i ++ drop (length (file_view bs i)) b }
  unfolding reading
  demand_2 = answered_viewed FileRefusal (refusal bs) (header bs).labels.count (file_view bs i) i b

-- ── demand 3: silent, on two calls ──

pub two_calls : (bs cs : List ℕ) (i : ℕ) (b d : List ℕ) (r q : Result ℕ Refusal) (out back : List ℕ)
    → reads r out ≡ reading bs i b → reads q back ≡ reading cs i d
    → Alike bs cs i → length b ≡ length d → SameReads b d (reads r out) (reads q back)
two_calls bs cs i b d r q out back e f A h = subst₂ (SameReads b d) (sym e) (sym f) (demand_3 bs cs i b d A h)

-- ── the call for C and Rust, which answers one number ──

view_least : (bs : List ℕ) (i : ℕ) → records_at ≤ length (file_view bs i)
unfolding file_view_over length_over
view_least bs i = omega (arith, length_view (λ l. flows l (label_at bs i)) (header bs).steps (file_run bs))

bounded : (bs : List ℕ) (i : ℕ) (b : List ℕ) → Bounded FileRefusal (reading bs i b).answer
unfolding reading
bounded bs i b =
    answered_bounded FileRefusal (λ n h. (h.0, omega (arith, h.1))) (refusal bs) (header bs).labels.count (file_view bs i) i b (numbers bs) (λ _. view_least bs i)

-- The number tells the answer.
pub code_tells : (bs : List ℕ) (i : ℕ) (b : List ℕ) → told (code_of (reading bs i b).answer) ≡ (reading bs i b).answer
code_tells bs i b = told_bounded FileRefusal (reading bs i b).answer (bounded bs i b)

-- Demand 3 on two calls of it: r and q are what they answer, out and back what they leave in the buffers.
pub two_c_calls : (bs cs : List ℕ) (i : ℕ) (b d : List ℕ) (r q : ℕ) (out back : List ℕ)
    → r ≡ code_of (reading bs i b).answer → out ≡ (reading bs i b).buffer
    → q ≡ code_of (reading cs i d).answer → back ≡ (reading cs i d).buffer
    → Alike bs cs i → length b ≡ length d → SameCalls FileRefusal b d r out q back
two_c_calls bs cs i b d r q out back er eo eq eb A h =
    rw (er, eo, eq, eb) (same_calls FileRefusal b d (reading bs i b) (reading cs i d) (bounded bs i b) (demand_3 bs cs i b d A h))
