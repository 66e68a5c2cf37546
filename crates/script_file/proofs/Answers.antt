-- The answer and its number.
use mathlib.Core.Bool.{Bool, true, false}
use mathlib.Core.List.{List, [], ◌∷◌}
use mathlib.Core.Path.{◌≡◌}
use Prim.Native.Nat.{ℕ, suc, ◌≤◌}
use native.Mathlib.Omega.{arith}
use lib.Dec.{eqb-suc-zero}
use lib.ListN.{length}
use Rattle.script_file.specs.Sections.{header, file_labels}
use Rattle.script_file.specs.Checks.{passes1, passes2, passes3, passes4, passes5, passes6, passes7, refusal, refusal_over}
use Rattle.script_file.specs.Loading.{loaded, labels_after}
use Rattle.script_file.specs.Parts.{Loads}
use Rattle.script_file.specs.declared.Header.{Header}
use Rattle.script_file.proofs.Tests.{lowest_each, lowest_most}
use Rattle.script_file.proofs.Limits.{Counted, counted, Placed, placed}
use Rattle.file_sections.specs.Sections.{or_none}
use Rattle.file_sections.specs.Labels.{label_array}
use Rattle.file_sections.specs.Refusals.{refusal_number, refusal_of}
use Rattle.file_sections.specs.declared.Refusal.{Refusal}
use Rattle.file_sections.proofs.Refusals.{answered, refused, told, answer-number as told-answer}
use Rattle.labels.specs.declared.Label.{Label}
use Rattle.std.specs.Prelude.{Ok, Err}

abbrev pub checks : List ℕ → List Bool
checks bs = passes1 bs ∷ passes2 bs ∷ passes3 bs ∷ passes4 bs ∷ passes5 bs ∷ passes6 bs ∷ passes7 bs ∷ []

pub refusal-most : (bs : List ℕ) → refusal bs ≤ 7
unfolding refusal_over
refusal-most bs = lowest_most 0 (checks bs)

-- the answer tells the number of the first check that applies, or 0
pub answer-number : (bs : List ℕ) → told (loaded bs) ≡ refusal bs
unfolding loaded
answer-number bs = told-answer (refusal bs) (header bs) (omega (arith, refusal-most bs))

-- ── the first check that does not pass stops the file ──

module _ (bs : List ℕ) where
  pub stops1 : passes1 bs ≡ false → refusal bs ≡ 1
  unfolding refusal_over
  stops1 e = rw e

  module _ (p1 : passes1 bs ≡ true) where
    pub stops2 : passes2 bs ≡ false → refusal bs ≡ 2
    unfolding refusal_over
    stops2 e = rw (p1, e)

    module _ (p2 : passes2 bs ≡ true) where
      pub stops3 : passes3 bs ≡ false → refusal bs ≡ 3
      unfolding refusal_over
      stops3 e = rw (p1, p2, e)

      module _ (p3 : passes3 bs ≡ true) where
        pub stops4 : passes4 bs ≡ false → refusal bs ≡ 4
        unfolding refusal_over
        stops4 e = rw (p1, p2, p3, e)

        module _ (p4 : passes4 bs ≡ true) where
          pub stops5 : passes5 bs ≡ false → refusal bs ≡ 5
          unfolding refusal_over
          stops5 e = rw (p1, p2, p3, p4, e)

          module _ (p5 : passes5 bs ≡ true) where
            pub stops6 : passes6 bs ≡ false → refusal bs ≡ 6
            unfolding refusal_over
            stops6 e = rw (p1, p2, p3, p4, p5, e)

            module _ (p6 : passes6 bs ≡ true) where
              pub stops7 : passes7 bs ≡ false → refusal bs ≡ 7
              unfolding refusal_over
              stops7 e = rw (p1, p2, p3, p4, p5, p6, e)

              pub stops_none : passes7 bs ≡ true → refusal bs ≡ 0
              unfolding refusal_over
              stops_none e = rw (p1, p2, p3, p4, p5, p6, e)

-- A file that is not refused passes each check.
pub record Accepted (bs : List ℕ) : Type 0 where
  pub size : passes1 bs ≡ true
  pub counts : passes2 bs ≡ true
  pub offsets : passes3 bs ≡ true
  pub labels : passes4 bs ≡ true
  pub start : passes5 bs ≡ true
  pub records : passes6 bs ≡ true
  pub code : passes7 bs ≡ true

pub accepted : (bs : List ℕ) → refusal bs ≡ 0 → Accepted bs
unfolding refusal_over
accepted bs none =
    let p = lowest_each 0 (checks bs) none in
    record {
      size = p.0;
      counts = p.1.0;
      offsets = p.1.1.0;
      labels = p.1.1.1.0;
      start = p.1.1.1.1.0;
      records = p.1.1.1.1.1.0;
      code = p.1.1.1.1.1.1.0;
    }

-- So its sections lie within it, and its counts within their limits.
pub within-limits : (bs : List ℕ) → refusal bs ≡ 0 → Counted (header bs)
unfolding passes2
within-limits bs none = counted (header bs) (accepted bs none).counts

pub in_place : (bs : List ℕ) → refusal bs ≡ 0 → Placed (header bs) (length bs)
unfolding passes3
in_place bs none = placed (header bs) (length bs) (accepted bs none).offsets

-- ── the answer ──

-- its number is the lowest that applies, one of 1 to 7
pub refused-number : (bs : List ℕ) (r : Refusal) → Err r ≡ loaded bs → (refusal_number r ≡ refusal bs) × (1 ≤ refusal_number r) × (refusal_number r ≤ 7)
unfolding loaded
refused-number bs r e =
    let most = refusal-most bs in
    let n = refused (refusal bs) (header bs) (omega arith) e in
    (n.0, omega arith, omega arith)

-- a file that loads, with its header and its labels
pub file-loads : (bs : List ℕ) (h : Header) (ls was : List Label) → Ok h ≡ loaded bs → ls ≡ labels_after bs was → Loads bs h ls
unfolding loaded labels_after
file-loads bs h ls was e l =
    let n = answered (refusal bs) e in
    record { none = n.0; numbers = n.1; labels = rw n.0 at l }

-- what a refusal, and what a file that loads, promises of the answer and of the labels
pub refuses : (bs : List ℕ) (ls : List Label) (n : ℕ) → refusal bs ≡ suc n → (Err (refusal_of (suc n)) ≡ loaded bs) × (ls ≡ labels_after bs ls)
unfolding loaded labels_after
refuses bs ls n e = (rw e, rw (e, eqb-suc-zero n))

pub loads : (bs : List ℕ) (ls : List Label) → refusal bs ≡ 0 → (Ok (header bs) ≡ loaded bs) × (label_array (or_none (file_labels bs)) ≡ labels_after bs ls)
unfolding loaded labels_after
loads bs ls e = (rw e, rw e)
