-- The calls for C and Rust answer one number. What that number tells, and when two such reads can't be told apart.
use Rattle.std.specs.Prelude.{cond, List, ◌++◌, ◌≢◌, ◌⊎◌, ◌≡◌, ℕ, ◌+◌, ◌*◌, ◌^◌, ◌/◌, ◌%◌, ◌≤◌, ltb, length, drop}
use Rattle.std.specs.Prelude.{Result, Ok, Err}
use Rattle.file_sections.specs.Refusals.{refusal_number, refusal_of}
use Rattle.file_sections.specs.declared.Refusal.{Refusal}
use Rattle.view.specs.Layout.{records_at}
use Rattle.quote.specs.declared.Figures.{Figures}

-- the numbers of refusals: of a plain file 1 to 9; of a day 1 to 10 but 5, in whose place 10 is tried
abbrev pub FileRefusal : ℕ → Type 0
FileRefusal n = (1 ≤ n) × (n ≤ 9)

abbrev pub DayRefusal : ℕ → Type 0
DayRefusal n = (1 ≤ n) × (n ≤ 10) × (n ≢ 5)

-- the answer that a number stands for: no view is shorter than 206 bytes, so below that it is a refusal
abbrev pub told : ℕ → Result ℕ Refusal
told n = cond (ltb n records_at) (Err (refusal_of n)) (Ok n)

-- Two calls, into buffers that held b and d, that their reader can't tell apart: the same refusal, its number one of
-- these, and both buffers as they were; or the length of one view v, which is over the start of both, and each buffer's
-- rest as it was.
pub data SameCalls (Number : ℕ → Type 0) (b d : List ℕ) : ℕ → List ℕ → ℕ → List ℕ → Type 0 where
  both_refused : (n : ℕ) → Number n → SameCalls Number b d n b n d
  both_viewed : (v : List ℕ) → records_at ≤ length v → length v ≤ length b → length v ≤ length d
      → SameCalls Number b d (length v) (v ++ drop (length v) b) (length v) (v ++ drop (length v) d)

-- ── a quote ──

-- the numbers of its refusals: 8 and 9 fall away, and 10 is a day's
abbrev pub QuoteRefusal : ℕ → Type 0
QuoteRefusal n = ((1 ≤ n) × (n ≤ 7)) ⊎ (n ≡ 11)

-- as one number: the refusal's, or the steps above 32 bits and the places in them
abbrev pub quote_code : Result Figures Refusal → ℕ
quote_code (Err r) = refusal_number r
quote_code (Ok f) = 2 ^ 32 * f.steps + f.places

-- the quote that a number stands for: every path has an instruction, so the steps are at least 1
abbrev pub told_quote : ℕ → Result Figures Refusal
told_quote n = cond (ltb n (2 ^ 32)) (Err (refusal_of n)) (Ok (record { steps = n / 2 ^ 32; places = n % 2 ^ 32 }))
