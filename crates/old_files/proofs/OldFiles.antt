-- Old files run alike. A file that no check stops over six principals is stopped by none over eight; its run is the same but for
-- the labels, each of which has its tables repeated in four words; and its view, for any reader, shows the same.
use Rattle.std.specs.Prelude.{Ok}
use mathlib.Core.Bool.{Bool, true}
use mathlib.Core.List.{List, [], ◌∷◌, ◌++◌}
use mathlib.Core.Path.{◌≡◌, refl, sym, ap, ap₂, ◌∙◌}
use Prim.Native.Nat.{ℕ, ◌≤◌, ◌<◌}
use borrow.Author.Tests.{lt-ltb, le-leb}
use lib.ListN.{length, drop}
use Rattle.labels.specs.Tables.{principals}
use Rattle.labels.specs.Order.{flows}
use Rattle.labels.specs.declared.Label.{Label}
use Rattle.model.specs.State.{Outcome}
use Rattle.model.specs.Inputs.{Input, inputs, input_slots}
use Rattle.model.specs.Running.{runs, start_control, start_account, start_store}
use Rattle.relabelling.specs.Relabelled.{outcome_under}
use Rattle.relabelling.specs.Keeps.{KeepsOrder, program_in}
use Rattle.relabelling.proofs.Starts.{inputs_under, start_under}
use Rattle.file_sections.specs.Sections.{inputs_over}
use Rattle.script_file.specs.Sections.{header, sections, record_bytes, code_bytes, label_at_over, label_at}
use Rattle.script_file.specs.Checks.{passes1, passes2, passes3, passes4_over, passes5_over, passes6, passes7, lowest, refusal_over, refusal}
use Rattle.script_file.specs.Program.{file_program_over, file_account_over, file_run_over, file_run}
use Rattle.script_file.proofs.Tests.{lowest_each}
use Rattle.view.specs.Reading.{file_view_over, file_view, reading}
use Rattle.old_files.specs.Repeating.{repeated}
use Rattle.old_files.specs.Contents.{Contents, contents_of, file_contents, layout, contents_under}
use Rattle.old_files.proofs.Tables.{low}
use Rattle.old_files.proofs.Order.{order, low_order, low_keeps, repeated_keeps}
use Rattle.old_files.proofs.Labels.{flows_alike, labels_still_pass, six_low, label_alike, still_flows}
use Rattle.old_files.proofs.Views.{view_laid_out, contents-under, outcome_twice, contents_twice}

module _ (bs : List ℕ) (loads : refusal_over 6 bs ≡ 0) where
  abbrev checks : ℕ → List Bool
  checks n = passes1 bs ∷ passes2 bs ∷ passes3 bs ∷ passes4_over n bs ∷ passes5_over n bs ∷ passes6 bs ∷ passes7 bs ∷ []

  -- over six its labels pass
  labels_pass : passes4_over 6 bs ≡ true
  unfolding refusal_over
  labels_pass = (lowest_each 0 (checks 6) loads).1.1.1.0

  -- label i over six
  abbrev six : ℕ → Label
  six = label_at_over 6 bs

  low_six : (i : ℕ) → low (six i) ≡ six i
  unfolding passes4_over
  low_six = six_low (sections bs) bs labels_pass

  pub is_repeated : (i : ℕ) → label_at bs i ≡ repeated (six i)
  unfolding passes4_over
  is_repeated = label_alike (sections bs) bs labels_pass

  -- ── it loads ──

  label_entries_still_pass : passes4_over principals bs ≡ true
  unfolding passes4_over
  label_entries_still_pass = labels_still_pass (sections bs) bs labels_pass

  start_still_passes : passes5_over principals bs ≡ passes5_over 6 bs
  unfolding passes4_over passes5_over
  start_still_passes = still_flows (sections bs) bs labels_pass 0 1

  pub still_loads : refusal bs ≡ 0
  unfolding refusal_over
  still_loads =
      ap₂ (λ (s t : Bool). lowest 1 (passes1 bs ∷ passes2 bs ∷ passes3 bs ∷ s ∷ t ∷ passes6 bs ∷ passes7 bs ∷ []))
      (label_entries_still_pass ∙ sym labels_pass) start_still_passes ∙ loads

  -- ── its run ──

  abbrev inputs_in : (ℕ → Label) → List Input
  inputs_in ls = inputs ls (record_bytes bs) (header bs).records.count 0

  -- the file's run under given labels
  run_with : (ℕ → Label) → Outcome
  run_with ls =
      runs (program_in order (code_bytes bs) ls (inputs_in ls)) start_control
      (start_account (ls 0) (ls 1) (header bs).steps (header bs).records.count (header bs).places) (start_store (input_slots (inputs_in ls)))

  -- and by the lowest words alone: the run over six and that over eight are both this one, with its labels mapped
  low_run : Outcome
  low_run =
      runs (program_in low_order (code_bytes bs) six (inputs_in six)) start_control
      (start_account (six 0) (six 1) (header bs).steps (header bs).records.count (header bs).places) (start_store (input_slots (inputs_in six)))

  mapped : (h : Label → Label) → KeepsOrder h low_order order → run_with (λ i. h (six i)) ≡ outcome_under h low_run
  unfolding run_with low_run
  mapped h K =
      ap (λ (xs : List Input). runs (program_in order (code_bytes bs) (λ i. h (six i)) xs) start_control
      (start_account (h (six 0)) (h (six 1)) (header bs).steps (header bs).records.count (header bs).places) (start_store (input_slots xs)))
      (inputs_under h six (record_bytes bs) (header bs).records.count 0)
      ∙ start_under h low_order order K (code_bytes bs) six (inputs_in six) (six 0) (six 1) (header bs).steps (header bs).records.count (header bs).places

  run-with : (n : ℕ) → file_run_over n bs ≡ run_with (label_at_over n bs)
  unfolding file_run_over file_program_over file_account_over inputs_over run_with
  run-with n = refl

  six_run : file_run_over 6 bs ≡ outcome_under low low_run
  six_run = run-with 6 ∙ ap run_with (λ k i. sym (low_six i) k) ∙ mapped low low_keeps

  eight_run : file_run bs ≡ outcome_under repeated low_run
  eight_run = run-with principals ∙ ap run_with (λ k i. is_repeated i k) ∙ mapped repeated repeated_keeps

  -- ending, account and every record
  pub same_run : file_run bs ≡ outcome_under repeated (file_run_over 6 bs)
  same_run = eight_run ∙ sym (ap (outcome_under repeated) six_run ∙ outcome_twice low repeated low_run)

  -- ── what a view of it shows ──

  module _ (i : ℕ) where
    -- by the lowest words alone
    abbrev sees : Label → Bool
    sees l = flows (low l) (low (six i))

    abbrev both : Contents
    both = contents_of sees (header bs).steps low_run

    six_contents : file_contents 6 bs i ≡ contents_under low both
    six_contents =
        ap₂ (λ (r : Label) (o : Outcome). contents_of (λ l. flows l r) (header bs).steps o) (sym (low_six i)) six_run
        ∙ contents-under low sees (λ l. flows l (low (six i))) (λ l. refl) (header bs).steps low_run

    eight_contents : file_contents principals bs i ≡ contents_under repeated both
    eight_contents =
        ap₂ (λ (r : Label) (o : Outcome). contents_of (λ l. flows l r) (header bs).steps o) (is_repeated i) eight_run
        ∙ contents-under repeated sees (λ l. flows l (repeated (six i))) (λ l. flows_alike l (six i)) (header bs).steps low_run

    -- the same endings, counts, places, kinds, numbers and handles, and the repeated labels
    pub same_contents : file_contents principals bs i ≡ contents_under repeated (file_contents 6 bs i)
    same_contents = eight_contents ∙ sym (ap (contents_under repeated) six_contents ∙ contents_twice low repeated both)

    -- in the old view's widths, and in the new one's
    pub old_view : file_view_over 6 bs i ≡ layout 6 (file_contents 6 bs i)
    unfolding file_view_over
    old_view = view_laid_out 6 (λ l. flows l (six i)) (header bs).steps (file_run_over 6 bs)

    pub new_view : file_view bs i ≡ layout principals (contents_under repeated (file_contents 6 bs i))
    unfolding file_view_over
    new_view =
        view_laid_out principals (λ l. flows l (label_at bs i)) (header bs).steps (file_run bs) ∙ ap (layout principals) same_contents

    -- given room, it is read
    pub still_read : (buffer : List ℕ) → i < (header bs).labels.count → length (file_view bs i) ≤ length buffer
        → reading bs i buffer ≡ record { answer = Ok (length (file_view bs i)); buffer = file_view bs i ++ drop (length (file_view bs i)) buffer }
    unfolding reading
    still_read buffer h room = rw (still_loads, lt-ltb i (header bs).labels.count h, le-leb (length (file_view bs i)) (length buffer) room)
