-- How many bytes each part of a view has, and the view as a whole. Assumes nothing.
use Rattle.std.specs.Prelude.{None, Some}
use mathlib.Core.Path.{◌≡◌, refl, ap, ◌∙◌}
use mathlib.Core.Bool.{Bool, true, false}
use mathlib.Core.List.{[], ◌∷◌, ◌++◌, append_assoc}
use Prim.Native.Nat.{ℕ, suc, ◌+◌, ◌-◌, ◌*◌, ◌≤◌}
use native.Mathlib.Omega.{arith}
use lib.ListN.{length, replicate}
use Rattle.labels.specs.Tables.{principals}
use Rattle.labels.specs.declared.Label.{Label}
use Rattle.model.specs.State.{Store, Outcome, shown, Slot}
use Rattle.model.specs.declared.Account.{Account}
use Rattle.model.specs.declared.Ending.{Ending}
use Rattle.view_fields.specs.Fields.{record_width, label_field, ending_number, result_field}
use Rattle.view_fields.specs.Writing.{numbers}
use Rattle.view_fields.proofs.Widths.{length_two, length_numbers, length_label, length_result, length_record}
use Rattle.view.specs.Layout.{slot_field, record_fields, one, records_shown, counts, final, view_length, view, length_over}
use Rattle.view.specs.Layout.{view_over}
use Rattle.view.specs.Writing.{finished}
use Rattle.model.specs.declared.Finished.{Finished}

pub one_small : (x : Slot) → one x ≤ 1
one_small None = omega arith
one_small (Some r) = omega arith

length_slot : (p : ℕ) (x : Slot) → length (slot_field principals p x) ≡ record_width principals * one x
unfolding slot_field
length_slot p None = refl
length_slot p (Some r) = length_record principals p r

pub length_records : (Reads : Label → Bool) (p : ℕ) (σ : Store)
    → length (record_fields principals Reads p σ) ≡ record_width principals * records_shown Reads σ
unfolding record_fields records_shown
length_records Reads p [] = refl
length_records Reads p (x ∷ σ) =
    length_two (slot_field principals p (shown Reads x)) (record_fields principals Reads (suc p) σ) _ _
    (length_slot p (shown Reads x)) (length_records Reads (suc p) σ)
    ∙ together (one (shown Reads x)) (records_shown Reads σ)
  where
    together : (m n : ℕ) → 132 * m + 132 * n ≡ 132 * (m + n)
    together m n = omega arith

-- ── what is shown of the ending, or is 0 ──

module _ (Reads : Label → Bool) (e : Ending) (a : Account) where
  pub counts_shown : (s : ℕ) → Reads a.label ≡ true → counts Reads s e a ≡ numbers (ending_number e) (s - a.steps) a.next
  unfolding counts numbers
  counts_shown s h = rw (h, append_assoc)

  pub counts_hidden : (s : ℕ) → Reads a.label ≡ false → counts Reads s e a ≡ replicate 6 0
  unfolding counts
  counts_hidden s h = rw h

  pub final_shown : Reads a.label ≡ true
      → final principals Reads e a
      ≡ result_field principals e ++ (label_field principals a.label ++ label_field principals a.clearance)
  unfolding final
  final_shown h = rw (h, append_assoc)

  pub final_hidden : Reads a.label ≡ false → final principals Reads e a ≡ replicate 194 0
  unfolding final
  final_hidden h = rw h

  pub length_counts : (s : ℕ) → length (counts Reads s e a) ≡ 6
  length_counts s = go (Reads a.label) refl
    where
      go : (b : Bool) → Reads a.label ≡ b → length (counts Reads s e a) ≡ 6
      go true h = ap length (counts_shown s h) ∙ length_numbers (ending_number e) (s - a.steps) a.next
      go false h = ap length (counts_hidden s h)

  pub length_final : length (final principals Reads e a) ≡ 194
  length_final = go (Reads a.label) refl
    where
      go : (b : Bool) → Reads a.label ≡ b → length (final principals Reads e a) ≡ 194
      go true h =
          ap length (final_shown h)
          ∙ length_two (result_field principals e) (label_field principals a.label ++ label_field principals a.clearance) 66 128
          (length_result principals e)
          (length_two (label_field principals a.label) (label_field principals a.clearance) 64 64
          (length_label principals a.label) (length_label principals a.clearance))
      go false h = ap length (final_hidden h)

-- ── the view ──

-- the view's parts, one behind the other
pub view_parts : (Reads : Label → Bool) (s : ℕ) (o : Outcome)
    → view Reads s o
    ≡ counts Reads s o.ending o.account
    ++ (numbers (records_shown Reads o.store) 206 (view_length Reads o.store)
    ++ (final principals Reads o.ending o.account ++ record_fields principals Reads 0 o.store))
unfolding view_over numbers
view_parts Reads s o = simp append_assoc

-- The view's length is known from the records alone: whether the ending is shown makes no difference to it.
pub length_view : (Reads : Label → Bool) (s : ℕ) (o : Outcome) → length (view Reads s o) ≡ view_length Reads o.store
unfolding length_over
length_view Reads s o =
    let n = records_shown Reads o.store in
    let records = length_two (final principals Reads o.ending o.account) _ 194 _ (length_final Reads o.ending o.account)
    (length_records Reads 0 o.store) in
    let behind = length_two (numbers n 206 (206 + 132 * n)) _ 6 _ (length_numbers n 206 (206 + 132 * n)) records in
    ap length (view_parts Reads s o)
    ∙ length_two (counts Reads s o.ending o.account) _ 6 _ (length_counts Reads o.ending o.account s) behind
    ∙ sum n
  where
    sum : (n : ℕ) → 6 + (6 + (194 + 132 * n)) ≡ 206 + 132 * n
    sum n = omega arith

-- A view depends on an account's label, clearance, steps and next place alone.
pub view_finished : (Reads : Label → Bool) (s : ℕ) (o : Outcome) (f : Finished)
    → o.ending ≡ f.ending → o.account.label ≡ f.label → o.account.clearance ≡ f.clearance → o.account.steps ≡ f.steps
    → o.account.next ≡ f.next → view Reads s o ≡ view Reads s (finished f o.store)
unfolding view_over counts final
view_finished Reads s o f e l c t n = rw (e, l, c, t, n)
