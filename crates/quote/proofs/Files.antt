-- A file that loads has code that is quoted; one that does not is refused with its number.
use mathlib.Core.Bool.{false}
use mathlib.Core.List.{List}
use mathlib.Core.Path.{◌≡◌, ap}
use Prim.Native.Nat.{ℕ, zero, suc}
use native.Mathlib.Omega.{arith}
use borrow.Author.Tests.{ne_eqb}
use lib.Dec.{eqb}
use lib.ListN.{length-drop}
use Rattle.script_file.specs.Sections.{header, code_bytes}
use Rattle.script_file.specs.Checks.{passes7, refusal}
use Rattle.script_file.specs.Loading.{loaded}
use Rattle.script_file.specs.declared.Header.{Header}
use Rattle.file_sections.specs.Refusals.{refusal_of, answer}
use Rattle.file_sections.specs.declared.Refusal.{Refusal}
use Rattle.script_file.proofs.Answers.{refused-number, accepted, within-limits, in_place}
use Rattle.std.specs.Prelude.{Err}
use Rattle.quote.specs.Quoting.{code_quote, quoting}
use Rattle.quote.specs.Passes.{Checked}

refusal_is : (n : ℕ) (h : Header) (r : Refusal) → Err r ≡ answer n h → r ≡ refusal_of n
refusal_is zero h r e = absurd (cc)
refusal_is (suc n) h r e = cc

pub checked_file : (bs : List ℕ) → refusal bs ≡ 0 → Checked (code_bytes bs)
unfolding passes7 code_bytes
checked_file bs z =
    record {
      labels = (header bs).labels.count;
      inputs = (header bs).records.count;
      passes = (accepted bs z).code;
      some = simp length-drop (omega (arith, (within-limits bs z).some_code, (in_place bs z).whole));
      short = simp length-drop (omega (arith, (within-limits bs z).code, (in_place bs z).whole));
    }

pub loads_quoted : (bs : List ℕ) → refusal bs ≡ 0 → code_quote (code_bytes bs) ≡ quoting bs
unfolding quoting
loads_quoted bs z = rw z

pub stops_refused : (bs : List ℕ) (r : Refusal) → Err r ≡ loaded bs → Err r ≡ quoting bs
unfolding quoting loaded
stops_refused bs r e =
    let n = refused-number bs r e in
    let some : eqb (refusal bs) 0 ≡ false = ne_eqb (refusal bs) 0 (λ z. omega (arith, n, z)) in
    rw some (ap (λ (x : Refusal). Err x) (refusal_is (refusal bs) (header bs) r e))
