-- The demands on a quote, as the open calls' contracts give it: every file gets one answer, the figures are the largest and no
-- run uses more, and the answer tells nothing of hidden numbers.
use mathlib.Core.List.{List}
use mathlib.Core.Path.{◌≡◌, refl, ap}
use Prim.Native.Nat.{ℕ, ◌+◌, ◌*◌, ◌<◌, ◌^◌}
use native.Mathlib.Omega.{arith}
use borrow.Author.Tests.{lt-ltb, le-ltb}
use Rattle.std.specs.Prelude.{Result, Ok, Err}
use Rattle.file_sections.specs.Refusals.{refusal_number}
use Rattle.file_sections.specs.declared.Refusal.{Refusal}
use Rattle.model.specs.Decoding.{byte}
use Rattle.script_file.specs.Sections.{sections, code_bytes}
use Rattle.noninterference.specs.Alike.{Alike, legible}
use Rattle.noninterference.proofs.Sections.{one_or_legible, same_code}
use Rattle.noninterference.proofs.Demand3.{same_refusal}
use Rattle.quote.specs.Quoting.{quoting}
use Rattle.quote.specs.declared.Figures.{Figures}
use Rattle.quote.proofs.Promises.{LargestOf, NoRunMore, refused_with, quote_bounds, steps_least, figures_short}
use Rattle.quote.proofs.QuotedLargest.{quote_largest}
use Rattle.monitor.specs.Calls.{QuoteRefusal, quote_code, told_quote}
use Rattle.monitor.proofs.Answered.{number_within, numbered}

-- ── total, and what the figures are ──

pub data Answered (bs : List ℕ) : Result Figures Refusal → Type 0 where
  is_refused : (r : Refusal) → QuoteRefusal (refusal_number r) → Answered bs (Err r)
  is_quoted : (f : Figures) → LargestOf (code_bytes bs) f → NoRunMore (code_bytes bs) f → Answered bs (Ok f)

pub quote_answers : (bs : List ℕ) → Answered bs (quoting bs)
quote_answers bs = by (quoting bs) refl
  where
    by : (q : Result Figures Refusal) → quoting bs ≡ q → Answered bs q
    by (Err r) e = is_refused r (refused_with bs r e)
    by (Ok f) e = is_quoted f (quote_largest bs f e) (quote_bounds bs f e)

-- ── silent: two files that differ in hidden numbers alone get the same answer ──

pub same_quote : (bs cs : List ℕ) (i : ℕ) → Alike bs cs i → quoting bs ≡ quoting cs
unfolding quoting
same_quote bs cs i A =
    one_or_legible legible sections bs cs i A (λ x. quoting bs ≡ quoting x) refl
    (λ lb lc. cc (same_refusal bs cs i A lb lc, same_code bs cs i A lb lc))

-- ── the call for C and Rust, which answers one number ──

abbrev figures_are : ℕ → ℕ → Figures
figures_are s p = record { steps = s; places = p }

same_figures : {s p t q : ℕ} → s ≡ t → p ≡ q → figures_are s p ≡ figures_are t q
same_figures e f = rw (e, f)

-- The number tells the answer, of a file of bytes.
pub quote_tells : (bs : List ℕ) → ((i : ℕ) → byte bs i < 256) → told_quote (quote_code (quoting bs)) ≡ quoting bs
quote_tells bs bytes = by (quoting bs) refl
  where
    by : (q : Result Figures Refusal) → quoting bs ≡ q → told_quote (quote_code q) ≡ q
    by (Err r) e = rw (lt-ltb (refusal_number r) (2 ^ 32) (omega (arith, (number_within r).1)), numbered r)
    by (Ok f) e =
        let short = figures_short bs f e bytes in
        let least = steps_least bs f e in
        rw (le-ltb (2 ^ 32 * f.steps + f.places) (2 ^ 32) (omega (arith, least)))
        (ap Ok (same_figures (omega (arith, short.1)) (omega (arith, short.1))))
