-- A file with no refusal never meets the definition's totals: whatever state its run comes to, in itself or in a block, the
-- instruction that stands next is one of the code's, and the place that it asks for holds a record. And the cap holds there.
use mathlib.Core.Bool.{true}
use mathlib.Core.List.{List, [], ◌∷◌}
use mathlib.Core.Path.{◌≡◌, refl, sym, ◌∙◌}
use Prim.Native.Nat.{ℕ, ◌≤◌}
use native.Mathlib.Omega.{arith}
use lib.ListN.{length, length-drop, length-append, length-replicate}
use Rattle.labels.specs.Order.{flows}
use Rattle.labels.specs.declared.Label.{Label}
use Rattle.model.specs.State.{Control, Store, Program}
use Rattle.model.specs.declared.Account.{Account}
use Rattle.model.specs.Decoding.{u16}
use Rattle.model.specs.Inputs.{Input, handles, input_slots}
use Rattle.model.specs.Operands.{Request, asks}
use Rattle.model.specs.Running.{runs, program_of, start_control, start_store}
use Rattle.model.proofs.Kept.{LowSet, Fresh, run_kept}
use Rattle.model.proofs.LowEquivalence.{Twin, LowEquivalent}
use Rattle.model.proofs.Start.{AlikeInputs, length_inputs, length_slots, numbers_point, start_fresh, start_equivalent}
use Rattle.model.proofs.Reached.{Reached, Holds, next_plan, any_label, reached_in, Safe, reached_safe, safe_holds}
use Rattle.model.proofs.Cap.{Capped, cap_holds, cap_at_end}
use Rattle.script_file.specs.Sections.{header, record_bytes, code_bytes, label_at}
use Rattle.formulas.specs.Lists.{among}
use Rattle.code_check.specs.Sweep.{starts, instr_ok, code_ok}
use Rattle.script_file.specs.Checks.{passes7, refusal, passes5_over}
use Rattle.script_file.specs.Program.{file_inputs, file_program, file_account, file_run, file_account_over, file_program_over, file_run_over}
use Rattle.script_file.proofs.Answers.{accepted as passes, within-limits, in_place}
use Rattle.view.specs.Reading.{file_view, file_view_over}
use Rattle.view.proofs.LengthField.{length_field_places}
use Rattle.noninterference.proofs.Demand3.{low_set, preorder}
use Rattle.noninterference.proofs.Starts.{start_ok, lands, start_zero}
use Rattle.file_sections.specs.Sections.{inputs_over}

-- what holds of each state that a run of a program with this code comes to, where there are l labels and n input records
pub record OnCode (l n : ℕ) (code : List ℕ) (P : Program) (c : Control) (σ : Store) : Type 0 where
  -- the next instruction stands at one of the code's starts; its opcode is known, its operands are not cut and within their limits
  pub at_start : among c.pc (starts code) ≡ true
  pub checked : instr_ok l n code c.pc ≡ true
  -- if it asks for the record at a place, there is one
  pub record_there : (a : Account) (r : Control) (q : Request) → next_plan P c a ≡ asks r q → Holds σ q

-- of a file
abbrev pub NoTotals : List ℕ → Control → Store → Type 0
NoTotals bs c σ = OnCode (header bs).labels.count (header bs).records.count (code_bytes bs) (file_program bs) c σ

-- every label is seen
module _ (code : List ℕ) (ls : ℕ → Label) (xs : List Input) where
  pub every_label : LowSet (program_of code ls xs) any_label
  every_label = low_set code ls xs any_label (λ k l e f. refl)

-- A run of code that passes check 7, from its first byte on, in a store whose handles are to records.
module _ (l n : ℕ) (code : List ℕ) (ls : ℕ → Label) (xs : List Input) (ok : code_ok l n code ≡ true) (some : 1 ≤ length code) where
  -- an instruction starts here
  abbrev Starts : ℕ → Type 0
  Starts pc = among pc (starts code) ≡ true

  start_safe : (a : Account) (σ : Store) → Fresh a σ → LowEquivalent (program_of code ls xs) any_label σ σ
      → Safe (program_of code ls xs) (every_label code ls xs) start_control a σ
  start_safe a σ fresh closed =
      record { fresh = fresh; reach = record { stack = tt; locals = numbers_point (Twin σ σ) 16 }; closed = closed }

  pub reached_on_code : (a₀ : Account) (σ₀ : Store) → Fresh a₀ σ₀ → LowEquivalent (program_of code ls xs) any_label σ₀ σ₀
      → (c : Control) (a : Account) (σ : Store) → Reached (program_of code ls xs) start_control a₀ σ₀ c a σ → OnCode l n code (program_of code ls xs) c σ
  reached_on_code a₀ σ₀ fresh closed c a σ h =
      let s = reached_safe (program_of code ls xs) (every_label code ls xs) start_control a₀ σ₀ (start_safe a₀ σ₀ fresh closed) c a σ h in
      let at = reached_in (program_of code ls xs) Starts (lands l n code ok) start_control a₀ σ₀ (start_zero l n code ok some) refl c a σ h in
      record {
        at_start = at;
        checked = start_ok l n code ok c.pc at;
        record_there = safe_holds (program_of code ls xs) (every_label code ls xs) c a σ s;
      }

alike_self : (xs : List Input) → AlikeInputs any_label xs xs
alike_self [] = tt
alike_self (x ∷ xs) = (refl, refl, (λ _. refl), alike_self xs)

-- no handle of a store of inputs is to an empty place
pub start_closed : (P : Program) (xs : List Input) → P.inputs ≡ handles 0 xs
    → LowEquivalent P any_label (start_store (input_slots xs)) (start_store (input_slots xs))
start_closed P xs e = start_equivalent P any_label xs xs (alike_self xs) e

module _ (bs : List ℕ) (ok : refusal bs ≡ 0) where
  code_there : 1 ≤ length (code_bytes bs)
  unfolding code_bytes
  code_there = simp length-drop (omega (arith, (within-limits bs ok).some_code, (in_place bs ok).whole))

  start : Store
  start = start_store (input_slots (file_inputs bs))

  fresh : Fresh (file_account bs) start
  unfolding file_account_over start inputs_over
  fresh =
      start_fresh (file_inputs bs) (label_at bs 0) (label_at bs 1) (header bs).steps (header bs).records.count (header bs).places
      (sym (length_inputs (label_at bs) (record_bytes bs) (header bs).records.count 0)) (within-limits bs ok).places

  -- Accepted files never meet the totals.
  pub accepted : (c : Control) (a : Account) (σ : Store)
      → Reached (file_program bs) start_control (file_account bs) (start_store (input_slots (file_inputs bs))) c a σ → NoTotals bs c σ
  unfolding passes7 file_program_over start
  accepted =
      reached_on_code (header bs).labels.count (header bs).records.count (code_bytes bs) (label_at bs) (file_inputs bs) (passes bs ok).code code_there
      (file_account bs) start fresh (start_closed (file_program bs) (file_inputs bs) refl)

  -- The cap holds of accepted files, label 1 being the starting clearance.
  pub file_capped : (c : Control) (a : Account) (σ : Store)
      → Reached (file_program bs) start_control (file_account bs) (start_store (input_slots (file_inputs bs))) c a σ
      → Capped (file_program bs) (label_at bs 1) c a
  unfolding passes5_over file_program_over file_account_over
  file_capped =
      cap_holds (file_program bs) (preorder (code_bytes bs) (label_at bs) (file_inputs bs)) start_control (file_account bs)
      (start_store (input_slots (file_inputs bs))) refl (passes bs ok).start

  pub file_ends_capped : (flows (file_run bs).account.label (file_run bs).account.clearance ≡ true)
      × (flows (file_run bs).account.clearance (label_at bs 1) ≡ true)
  unfolding passes5_over file_program_over file_account_over file_run_over
  file_ends_capped =
      cap_at_end (file_program bs) (preorder (code_bytes bs) (label_at bs) (file_inputs bs)) start_control (file_account bs)
      (start_store (input_slots (file_inputs bs))) refl (passes bs ok).start

  -- the run of a file keeps the 256 places of the store
  store_places : length (file_run bs).store ≡ 256
  unfolding file_run_over file_program_over runs start start_store inputs_over
  store_places =
      sym (run_kept (file_program bs) any_label (every_label (code_bytes bs) (label_at bs) (file_inputs bs)) (file_account bs).steps start_control (file_account bs) start fresh).sized
      ∙ simp (length-append, length-replicate, length_slots, length_inputs) (omega (arith, (within-limits bs ok).records))

  -- "A view is as many bytes as its length field says."
  pub view-length : (i : ℕ) → u16 (file_view bs i) 10 ≡ length (file_view bs i)
  unfolding file_view_over
  view-length i = length_field_places (λ l. flows l (label_at bs i)) (header bs).steps (file_run bs) (omega (arith, store_places))
