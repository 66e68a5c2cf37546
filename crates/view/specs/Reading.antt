-- Reading a file for a label into a buffer: the answer, and the whole buffer afterwards. Checks 1 to 9.
use Rattle.std.specs.Prelude.{cond, List, ◌++◌, ℕ, leb, ltb, eqb, length, drop, Result, Ok, Err}
use Rattle.labels.specs.Tables.{principals}
use Rattle.labels.specs.Order.{flows}
use Rattle.file_sections.specs.Refusals.{refusal_of}
use Rattle.file_sections.specs.declared.Refusal.{Refusal}
use Rattle.script_file.specs.Sections.{header, label_at_over}
use Rattle.script_file.specs.Checks.{refusal}
use Rattle.script_file.specs.Program.{file_run_over}
use Rattle.view.specs.Layout.{view_over}

-- the answer: how many bytes the view has, or why there is none
pub record Reading : Type 0 where
  pub answer : Result ℕ Refusal
  pub buffer : List ℕ

-- what the label with index i is shown of a file that loads, over n principals and over those that there are
unfoldable pub file_view_over : ℕ → List ℕ → ℕ → List ℕ
file_view_over n bs i = view_over n (λ l. flows l (label_at_over n bs i)) (header bs).steps (file_run_over n bs)

abbrev pub file_view : List ℕ → ℕ → List ℕ
file_view = file_view_over principals

-- the refusal with number n: "the output buffer is untouched"
abbrev pub refuse : ℕ → List ℕ → Reading
refuse n buffer = record { answer = Err (refusal_of n); buffer = buffer }

-- "The buffer beyond the length is untouched." 9: the buffer is shorter than the view.
abbrev pub show : List ℕ → List ℕ → Reading
show v buffer =
    cond (leb (length v) (length buffer))
    (record { answer = Ok (length v); buffer = v ++ drop (length v) buffer })
    (refuse 9 buffer)

-- What a read comes to, of a file whose first check that applies is r (0 where none does) and that has l labels, by the
-- label with index i, whose view is v. 8: the reading label's index is L or more.
abbrev pub answered : ℕ → ℕ → List ℕ → ℕ → List ℕ → Reading
answered r l v i buffer = cond (eqb r 0) (cond (ltb i l) (show v buffer) (refuse 8 buffer)) (refuse r buffer)

unfoldable pub reading : List ℕ → ℕ → List ℕ → Reading
reading bs i buffer = answered (refusal bs) (header bs).labels.count (file_view bs i) i buffer
