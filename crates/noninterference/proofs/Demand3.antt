-- Demand 3, whole: one claim about two reads of two files. Any code, any numbers of steps and places, any buffers of one
-- length; what is known of the order of labels is proved, not assumed.
use mathlib.Core.Bool.{Bool, true}
use mathlib.Core.List.{List}
use mathlib.Core.Path.{◌≡◌, refl, sym, ap, ap₂, ◌∙◌, subst}
use Prim.Native.Nat.{ℕ}
use native.Mathlib.Omega.{arith}
use lib.Dec.{leb, ltb, eqb}
use borrow.Author.Tests.{leb-true, eqb-true}
use lib.ListN.{length}
use Rattle.formulas.proofs.Tests.{T_eq, T_true}
use Rattle.labels.specs.Order.{flows, join}
use Rattle.labels.specs.declared.Label.{Label}
use Rattle.labels.proofs.Laws.{labels}
use Rattle.model.specs.State.{Outcome}
use Rattle.model.specs.Inputs.{Input, input_slots}
use Rattle.model.specs.Running.{runs, program_of, start_control, start_store}
use Rattle.model.proofs.Tests.{cond_two}
use Rattle.model.proofs.Kept.{LowSet}
use Rattle.model.proofs.Cap.{Preorder}
use Rattle.model.proofs.LowEquivalence.{LowOutcomes}
use Rattle.model.proofs.Start.{AlikeInputs, alike_handles, length_inputs, two_starts}
use Rattle.script_file.specs.declared.Header.{Header}
use Rattle.script_file.specs.Sections.{header, sections, record_bytes, code_bytes, label_at}
use Rattle.script_file.specs.Checks.{passes1, passes2, passes3, passes7, refusal, passes4_over, passes5_over, refusal_over}
use Rattle.script_file.specs.Program.{file_inputs, file_program, file_account, file_run, file_account_over, file_program_over, file_run_over}
use Rattle.script_file.proofs.Limits.{counted}
use Rattle.view.specs.Layout.{view}
use Rattle.view.specs.Reading.{file_view, show, answered, reading, file_view_over}
use Rattle.view.proofs.SameView.{same_view}
use Rattle.noninterference.specs.Alike.{legible, Alike, SameReads, both_refused, both_viewed}
use Rattle.noninterference.proofs.Sections.{legible_each, one_or_legible, same_header, same_file_labels, same_file_label, same_code, alike_file_inputs}
use Rattle.file_sections.specs.Sections.{inputs_over}
use Rattle.file_sections.specs.Refusals.{refusal_of}

-- ── the labels that a reader sees ──

module _ (code : List ℕ) (ls : ℕ → Label) (xs : List Input) where
  -- A set that is closed downward is one that two runs are compared under: both labels flow to their join.
  pub low_set : (Low : Label → Bool) → ((k l : Label) → flows k l ≡ true → Low l ≡ true → Low k ≡ true) → LowSet (program_of code ls xs) Low
  low_set Low down =
      record {
        down = down;
        join_left = λ k l. T_true (flows k (join k l)) (labels.le_left k l);
        join_right = λ k l. T_true (flows l (join k l)) (labels.le_right k l);
      }

  -- All that the cap asks of the order.
  pub preorder : Preorder (program_of code ls xs)
  preorder =
      record {
        reflexive = λ l. T_true (flows l l) (labels.le_refl l);
        transitive = λ k l m e f. T_true (flows k m) (labels.le_trans k l m (T_eq (sym e) tt) (T_eq (sym f) tt));
      }

  -- The labels that flow to a reading label are closed downward, under the order of labels.
  pub readable : (m : Label) → LowSet (program_of code ls xs) (λ l. flows l m)
  readable m = low_set (λ l. flows l m) (λ k l e f. preorder.transitive k l m e f)

-- ── two files that none of 1 to 4, 6 and 8 stops ──

module _ (bs cs : List ℕ) (i : ℕ) (A : Alike bs cs i) (lb : legible bs i ≡ true) (lc : legible cs i ≡ true) where
  he : header bs ≡ header cs
  he = same_header bs cs i A lb lc

  pub same_refusal : refusal bs ≡ refusal cs
  unfolding refusal_over passes1 passes2 passes3 passes4_over passes5_over passes7
  same_refusal =
      let six = (legible_each bs i lb).1.1.1.1.0 in
      let six' = (legible_each cs i lc).1.1.1.1.0 in
      cc (A.sized, he, same_file_labels bs cs i A lb lc, same_file_label bs cs i A lb lc, same_code bs cs i A lb lc, six, six')

  alike : AlikeInputs (λ l. flows l (label_at bs i)) (file_inputs bs) (file_inputs cs)
  alike = alike_file_inputs bs cs i A lb lc

  same_program : file_program bs ≡ file_program cs
  unfolding file_program_over
  same_program =
      cc (same_code bs cs i A lb lc, same_file_label bs cs i A lb lc, alike_handles (λ l. flows l (label_at bs i)) 0 (file_inputs bs) (file_inputs cs) alike)

  same_account : file_account bs ≡ file_account cs
  unfolding file_account_over
  same_account = cc (he, same_file_label bs cs i A lb lc)

  -- the run of the first file's program, on the second file's input records
  middle : Outcome
  middle = runs (file_program bs) start_control (file_account bs) (start_store (input_slots (file_inputs cs)))

  two : LowOutcomes (file_program bs) (λ l. flows l (label_at bs i)) (file_run bs) middle
  unfolding file_run_over file_program_over file_account_over middle inputs_over passes2
  two =
      two_starts (file_program bs) (λ l. flows l (label_at bs i)) (file_inputs bs) (file_inputs cs) alike (readable (code_bytes bs) (label_at bs) (file_inputs bs) (label_at bs i)) refl
      (label_at bs 0) (label_at bs 1) (header bs).steps (header bs).records.count (header bs).places
      (sym (length_inputs (label_at bs) (record_bytes bs) (header bs).records.count 0)) (counted (header bs) (legible_each bs i lb).1.0).places

  same_run : middle ≡ file_run cs
  unfolding file_run_over middle
  same_run = cc (same_program, same_account)

  views_alike : file_view bs i ≡ file_view cs i
  unfolding file_view_over
  views_alike =
      same_view (λ l. flows l (label_at bs i)) (λ l. flows l (label_at bs i)) (λ l e. e) (file_program bs) (header bs).steps (file_run bs) middle two
      ∙ ap (view (λ l. flows l (label_at bs i)) (header bs).steps) same_run
      ∙ ap₂ (λ (ls : ℕ → Label) (h : Header). view (λ l. flows l (ls i)) h.steps (file_run cs)) (same_file_label bs cs i A lb lc) he

-- ── a read, from refusal and view ──

module _ (b d : List ℕ) (sized : length b ≡ length d) where
  same_shows : (v : List ℕ) → SameReads b d (show v b) (show v d)
  same_shows v =
      rw (← sized)
      (cond_two (SameReads b d) (leb (length v) (length b))
      (λ e. let le = leb-true (length v) (length b) e in both_viewed v le (omega arith))
      (λ _. both_refused (refusal_of 9)))

  -- the same refusal and number of labels, and one view where nothing is refused
  pub same_reads : (r r' l l' : ℕ) (v v' : List ℕ) (i : ℕ) → r ≡ r' → l ≡ l' → (r ≡ 0 → v ≡ v')
      → SameReads b d (answered r l v i b) (answered r' l' v' i d)
  same_reads r r' l l' v v' i er el ev =
      rw (← er, ← el)
      (cond_two (SameReads b d) (eqb r 0)
      (λ e. cond_two (SameReads b d) (ltb i l)
      (λ _. subst (λ (w : List ℕ). SameReads b d (show v b) (show w d)) (ev (eqb-true r 0 e)) (same_shows v))
      (λ _. both_refused (refusal_of 8)))
      (λ _. both_refused (refusal_of r)))

-- ── demand 3 ──

-- Two files that are alike for a reading label's index, read with that index into buffers of one length: the same refusal
-- and both buffers as they were, or one view and each buffer's rest as it was.
pub demand_3 : (bs cs : List ℕ) (i : ℕ) (b d : List ℕ) → Alike bs cs i → length b ≡ length d
    → SameReads b d (reading bs i b) (reading cs i d)
unfolding reading
demand_3 bs cs i b d A sized =
    one_or_legible legible sections bs cs i A (λ x. SameReads b d (reading bs i b) (reading x i d))
    (same_reads b d sized (refusal bs) (refusal bs) _ _ (file_view bs i) (file_view bs i) i refl refl (λ _. refl))
    (λ lb lc. same_reads b d sized (refusal bs) (refusal cs) _ _ (file_view bs i) (file_view cs i) i (same_refusal bs cs i A lb lc)
    (ap (λ (h : Header). h.labels.count) (same_header bs cs i A lb lc)) (λ _. views_alike bs cs i A lb lc))
