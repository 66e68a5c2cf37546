-- How many bytes each field of a view has. Assumes nothing.
use mathlib.Core.Path.{◌≡◌, refl, ap, ap₂, ◌∙◌}
use mathlib.Core.List.{List, ◌++◌}
use Prim.Native.Nat.{ℕ, zero, suc, ◌+◌, ◌/◌}
use native.Mathlib.Omega.{arith}
use lib.ListN.{length, length-append}
use Rattle.labels.specs.Tables.{principals, whole}
use Rattle.labels.specs.declared.Label.{Label}
use Rattle.model.specs.declared.Kind.TheVariants.{Sealed, Reference}
use Rattle.model.specs.declared.Datum.{Datum}
use Rattle.model.specs.declared.Datum.TheVariants.{Number, Label as Labelled, Handle}
use Rattle.model.specs.declared.Contents.{Contents}
use Rattle.model.specs.declared.Contents.TheVariants.{Value as Holds, Fault}
use Rattle.model.specs.declared.Record.{Record}
use Rattle.model.specs.declared.Ending.{Ending}
use Rattle.model.specs.declared.Ending.TheVariants.{Result, Fault as Faulted, Spent}
use Rattle.view_fields.specs.Fields.{table_width, label_width, value_width, record_width, little_endian, label_field, value_field}
use Rattle.view_fields.specs.Fields.{datum_field, contents_field, result_field, record_field}
use Rattle.view_fields.specs.Writing.{numbers, triple_field}
use Rattle.view_fields.specs.declared.Triple.{Triple}

-- ── numbers, labels and values ──

pub length_number : (k n : ℕ) → length (little_endian k n) ≡ k
unfolding little_endian
length_number zero n = refl
length_number (suc k) n = ap suc (length_number k (n / 256))

-- two lists in a row, of m and n elements
pub length_two : (xs ys : List ℕ) (m n : ℕ) → length xs ≡ m → length ys ≡ n → length (xs ++ ys) ≡ m + n
length_two xs ys m n e f = length-append xs ys ∙ ap₂ (λ (a b : ℕ). a + b) e f

pub length_numbers : (a b c : ℕ) → length (numbers a b c) ≡ 6
unfolding numbers
length_numbers a b c =
    length_two (little_endian 2 a) (little_endian 2 b ++ little_endian 2 c) 2 4 (length_number 2 a)
    (length_two (little_endian 2 b) (little_endian 2 c) 2 2 (length_number 2 b) (length_number 2 c))

two_words : (n x y : ℕ) → length (little_endian (table_width n) x ++ little_endian (table_width n) y) ≡ label_width n
two_words n x y =
    length_two (little_endian (table_width n) x) (little_endian (table_width n) y) (table_width n) (table_width n)
    (length_number (table_width n) x) (length_number (table_width n) y)

module _ (n : ℕ) where
  pub length_label : (l : Label) → length (label_field n l) ≡ label_width n
  unfolding label_field
  length_label l = two_words n (whole l.secrecy) (whole l.integrity)

  length_value : (k x y : ℕ) → length (value_field n k x y) ≡ value_width n
  length_value k x y = let e = two_words n x y in omega arith

pub length_triple : (v : Triple) → length (triple_field v) ≡ value_width principals
length_triple v = length_value principals v.kind (whole v.first) (whole v.second)

module _ (n : ℕ) where
  length_datum : (d : Datum) → length (datum_field n d) ≡ value_width n
  unfolding datum_field
  length_datum (Number x) = length_value n 1 x 0
  length_datum (Labelled l) = length_value n 2 (whole l.secrecy) (whole l.integrity)
  length_datum (Handle Sealed p) = length_value n 3 p 0
  length_datum (Handle Reference p) = length_value n 4 p 0

  length_contents : (c : Contents) → length (contents_field n c) ≡ value_width n
  unfolding contents_field
  length_contents (Holds d) = length_datum d
  length_contents (Fault code x) = length_value n 5 code x

  pub length_result : (e : Ending) → length (result_field n e) ≡ value_width n
  unfolding result_field
  length_result (Result d) = length_datum d
  length_result (Faulted code x) = length_value n 5 code x
  length_result Spent = length_value n 0 0 0

  -- ── records ──

  pub length_record : (p : ℕ) (r : Record) → length (record_field n p r) ≡ record_width n
  unfolding record_field
  length_record p r =
      let e = length_two (label_field n r.label) (contents_field n r.contents) (label_width n) (value_width n)
      (length_label n r.label) (length_contents r.contents) in
      omega arith
