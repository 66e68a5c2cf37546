-- Stopped by the file: "For demand 3, an input record's number is the last four of its six bytes. It is hidden if the
-- record's label, as the file gives it, doesn't flow to the reading label. Two files are alike for a reading label's index
-- if they have one length and the same bytes everywhere but in hidden numbers. Where 1 to 4, 6 or 8 applies to either, no
-- number is hidden and alike means equal." Said once, of the sections that a plain file and a day both have.
use Rattle.std.specs.Prelude.{Bool, true, false, List, [], ◌∷◌, ◌++◌, ◌≡◌, ℕ, ◌+◌, ◌*◌, ◌≤◌, ◌<◌, ltb, length, drop, Ok, Err}
use Rattle.labels.specs.Order.{flows}
use Rattle.labels.specs.declared.Label.{Label}
use Rattle.model.specs.Decoding.{byte}
use Rattle.file_sections.specs.Sections.{Sections, label_of}
use Rattle.file_sections.specs.Checks.{every}
use Rattle.file_sections.specs.declared.Refusal.{Refusal}
use Rattle.script_file.specs.Sections.{header, sections}
use Rattle.script_file.specs.Checks.{passes1, passes2, passes3, passes4, passes6}
use Rattle.view.specs.Reading.{Reading}

-- where input record j starts
abbrev pub record_at : Sections → ℕ → ℕ
record_at s j = s.records.offset + 6 * j

-- its label, as the file gives it: its second byte is the label's index
abbrev pub input_label : Sections → List ℕ → ℕ → Label
input_label s bs j = label_of s bs (byte bs (record_at s j + 1))

-- byte p of a file is in the number of an input record, and that number is hidden from the label with index i
pub record Hidden (s : Sections) (bs : List ℕ) (i p : ℕ) : Type 0 where
  pub input : ℕ
  pub counted : input < s.records.count
  pub from : record_at s input + 2 ≤ p
  pub to : p < record_at s input + 6
  pub no_flow : flows (input_label s bs input) (label_of s bs i) ≡ false

-- Two files of a kind, told by what none of 1 to 4, 6 and 8 stops and by where its sections lie. Said of the first file's
-- sections and labels; `alike_sym` shows that it may as well be the second's.
pub record AlikeBy (legible : List ℕ → ℕ → Bool) (sections : List ℕ → Sections) (bs cs : List ℕ) (i : ℕ) : Type 0 where
  pub sized : length bs ≡ length cs
  pub bytes : (p : ℕ) → ¬ ((legible bs i ≡ true) × (legible cs i ≡ true) × Hidden (sections bs) bs i p) → byte bs p ≡ byte cs p

-- none of 1 to 4, 6 and 8 applies. Any of them may apply where another number is returned, so each is a test of its own.
unfoldable pub legible : List ℕ → ℕ → Bool
legible bs i =
    every (passes1 bs ∷ passes2 bs ∷ passes3 bs ∷ passes4 bs ∷ passes6 bs ∷ ltb i (header bs).labels.count ∷ [])

-- plain files
abbrev pub Alike : List ℕ → List ℕ → ℕ → Type 0
Alike bs cs i = AlikeBy legible sections bs cs i

-- Two reads, into buffers that held b and d, that their reader can't tell apart: the same refusal and both buffers as they
-- were, or one view v in both and each buffer's rest as it was.
pub data SameReads (b d : List ℕ) : Reading → Reading → Type 0 where
  both_refused : (r : Refusal) → SameReads b d (record { answer = Err r; buffer = b }) (record { answer = Err r; buffer = d })
  both_viewed : (v : List ℕ) → length v ≤ length b → length v ≤ length d
      → SameReads b d (record { answer = Ok (length v); buffer = v ++ drop (length v) b })
      (record { answer = Ok (length v); buffer = v ++ drop (length v) d })
