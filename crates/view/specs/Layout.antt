-- The view: what the observer, a reading label, is shown of a run's outcome.
use Rattle.std.specs.Prelude.{Bool, cond, List, [], ◌∷◌, ◌++◌, ℕ, suc, ◌+◌, ◌-◌, ◌*◌, replicate, None, Some}
use Rattle.labels.specs.Tables.{principals}
use Rattle.labels.specs.declared.Label.{Label}
use Rattle.model.specs.State.{Store, Outcome, shown, Slot}
use Rattle.model.specs.declared.Account.{Account}
use Rattle.model.specs.declared.Ending.{Ending}
use Rattle.view_fields.specs.Fields.{label_width, value_width, record_width, little_endian, label_field, ending_number}
use Rattle.view_fields.specs.Fields.{result_field, record_field}

-- what is 0 where the final label is hidden, over n principals: a value and two labels
abbrev pub final_width : ℕ → ℕ
final_width n = value_width n + label_width n + label_width n

-- where the records start: behind six 16-bit numbers and that. T-07: "206 replaces 62"
abbrev pub start_over : ℕ → ℕ
start_over n = 12 + final_width n

abbrev pub records_at : ℕ
records_at = start_over principals

-- ── records ──

unfoldable pub slot_field : ℕ → ℕ → Slot → List ℕ
slot_field n p None = []
slot_field n p (Some r) = record_field n p r

-- the records of a store, the first being at place p, by rising place
unfoldable pub record_fields : ℕ → (Label → Bool) → ℕ → Store → List ℕ
record_fields n Reads p [] = []
record_fields n Reads p (x ∷ σ) = slot_field n p (shown Reads x) ++ record_fields n Reads (suc p) σ

abbrev pub one : Slot → ℕ
one None = 0
one (Some r) = 1

unfoldable pub records_shown : (Label → Bool) → Store → ℕ
records_shown Reads [] = 0
records_shown Reads (x ∷ σ) = one (shown Reads x) + records_shown Reads σ

-- ── the view ──

-- "If the final label doesn't flow to the reader, ending, steps, next place" and result, label and clearance "are 0."
unfoldable pub counts : (Label → Bool) → ℕ → Ending → Account → List ℕ
counts Reads s e a =
    cond (Reads a.label)
    (little_endian 2 (ending_number e) ++ little_endian 2 (s - a.steps) ++ little_endian 2 a.next)
    (replicate 6 0)

unfoldable pub final : ℕ → (Label → Bool) → Ending → Account → List ℕ
final n Reads e a =
    cond (Reads a.label)
    (result_field n e ++ label_field n a.label ++ label_field n a.clearance)
    (replicate (final_width n) 0)

unfoldable pub length_over : ℕ → (Label → Bool) → Store → ℕ
length_over n Reads σ = start_over n + record_width n * records_shown Reads σ

-- the view of a run of s steps: ending, steps used, next place, records shown, where they start, length; result, label,
-- clearance; records. Over n principals, and over those that there are.
unfoldable pub view_over : ℕ → (Label → Bool) → ℕ → Outcome → List ℕ
view_over n Reads s o =
    counts Reads s o.ending o.account
    ++ little_endian 2 (records_shown Reads o.store) ++ little_endian 2 (start_over n)
    ++ little_endian 2 (length_over n Reads o.store)
    ++ final n Reads o.ending o.account
    ++ record_fields n Reads 0 o.store

abbrev pub view_length : (Label → Bool) → Store → ℕ
view_length = length_over principals

abbrev pub view : (Label → Bool) → ℕ → Outcome → List ℕ
view = view_over principals

-- the longest view shows a record at each of the 256 places
abbrev pub longest_view : ℕ
longest_view = records_at + record_width principals * 256
