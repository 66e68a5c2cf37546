-- What a header that passes checks 2 and 3 says of its numbers.
use mathlib.Core.Bool.{true}
use mathlib.Core.Path.{◌≡◌}
use Prim.Native.Nat.{ℕ, ◌+◌, ◌*◌, ◌≤◌}
use borrow.Author.Tests.{leb-true, eqb-true}
use Rattle.script_file.specs.Checks.{counts_ok, offsets_ok}
use Rattle.script_file.specs.declared.Header.{Header}
use Rattle.file_sections.proofs.Tests.{every_each}

pub record Counted (h : Header) : Type 0 where
  pub labels : h.labels.count ≤ 32
  pub records : h.records.count ≤ 64
  pub some_code : 1 ≤ h.code.count
  pub code : h.code.count ≤ 4096
  pub inputs_fit : h.records.count ≤ h.places
  pub places : h.places ≤ 256

pub counted : (h : Header) → counts_ok h ≡ true → Counted h
unfolding counts_ok
counted h e =
    let p = every_each _ e in
    let q = every_each _ p.0 in
    record {
      labels = leb-true _ _ q.1.0;
      records = leb-true _ _ q.1.1.0;
      some_code = leb-true _ _ q.1.1.1.0;
      code = leb-true _ _ q.1.1.1.1.0;
      inputs_fit = leb-true _ _ p.1.1.0;
      places = leb-true _ _ p.1.1.1.0;
    }

pub record Placed (h : Header) (n : ℕ) : Type 0 where
  pub records : 16 ≤ h.records.offset
  pub code : h.code.offset ≡ h.records.offset + 6 * h.records.count
  pub whole : n ≡ h.code.offset + h.code.count

pub placed : (h : Header) (n : ℕ) → offsets_ok h n ≡ true → Placed h n
unfolding offsets_ok
placed h n e =
    let p = every_each _ e in
    record { records = leb-true _ _ p.1.0; code = eqb-true _ _ p.1.1.0; whole = eqb-true _ _ p.1.1.1.0 }
