-- What each function finds is what its check says of the file: the function is given a header and parts of the file.
use mathlib.Core.Bool.{Bool, true, false}
use mathlib.Core.List.{List}
use mathlib.Core.Path.{◌≡◌, sym, ap, ap₂, ◌∙◌}
use Prim.Native.Nat.{ℕ, ◌+◌, ◌-◌, ◌*◌}
use native.Mathlib.Omega.{arith}
use lib.ListN.{length, get_or, take, drop}
use borrow.Author.Rules.{part_to_end}
use Rattle.labels.specs.Order.{flows, no_label}
use Rattle.model.specs.FileLabels.{label_in}
use Rattle.script_file.specs.Sections.{header, sections, record_bytes, code_bytes, file_labels, label_at}
use Rattle.code_check.specs.Sweep.{code_ok}
use Rattle.script_file.specs.Checks.{size_ok, counts_ok, offsets_ok, passes1, passes2, passes3, passes4, passes5, passes6, passes7, passes4_over, passes5_over}
use Rattle.file_sections.specs.Sections.{read_labels, or_none, label_bytes_of, record_bytes_of, labels_over}
use Rattle.file_sections.specs.Checks.{size_within, records_ok}
use Rattle.file_sections.specs.Labels.{label_array, labels_found}
use Rattle.file_sections.proofs.Arrays.{array_is_labels, not_found, found}
use Rattle.labels.specs.declared.Label.{Label}
use Rattle.std.specs.Prelude.{Option, Some, None}
use Rattle.script_file.specs.declared.Header.{Header}

-- the parts that the code takes of a file, where the header says
abbrev pub records_in : Header → List ℕ → List ℕ
records_in h bs = take (h.code.offset - h.records.offset) (drop h.records.offset bs)

abbrev pub code_in : Header → List ℕ → List ℕ
code_in h bs = take (length bs - h.code.offset) (drop h.code.offset bs)

module _ (bs : List ℕ) where
  pub finds1 : {b : Bool} → size_within 16 (length bs) ≡ b → passes1 bs ≡ b
  unfolding passes1 size_ok
  finds1 e = e

  module _ (h : Header) (is : h ≡ header bs) where
    pub finds2 : {b : Bool} → counts_ok h ≡ b → passes2 bs ≡ b
    unfolding passes2
    finds2 e = ap counts_ok (sym is) ∙ e

    pub finds3 : {b : Bool} → offsets_ok h (length bs) ≡ b → passes3 bs ≡ b
    unfolding passes3
    finds3 e = ap (λ (g : Header). offsets_ok g (length bs)) (sym is) ∙ e

    pub file_table : (o : Option (List Label)) → o ≡ labels_found (read_labels h.labels.count (take (h.records.offset - 16) (drop 16 bs))) → o ≡ labels_found (file_labels bs)
    unfolding labels_over label_bytes_of
    file_table o e = e ∙ ap (λ (g : Header). labels_found (read_labels g.labels.count (take (g.records.offset - 16) (drop 16 bs)))) is

    pub records-in : h.code.offset ≡ h.records.offset + 6 * h.records.count → records_in h bs ≡ record_bytes bs
    unfolding record_bytes_of
    records-in e =
        let count : h.code.offset - h.records.offset ≡ 6 * h.records.count = omega arith in
        ap (λ (n : ℕ). take n (drop h.records.offset bs)) count
        ∙ ap (λ (g : Header). take (6 * g.records.count) (drop g.records.offset bs)) is

    pub code-in : code_in h bs ≡ code_bytes bs
    unfolding code_bytes
    code-in = part_to_end bs h.code.offset ∙ ap (λ (g : Header). drop g.code.offset bs) is

    pub finds6 : {b : Bool} → h.code.offset ≡ h.records.offset + 6 * h.records.count
        → records_ok h.labels.count (records_in h bs) h.records.count 0 ≡ b → passes6 bs ≡ b
    unfolding passes6
    finds6 e r =
        ap₂ (λ (g : Header) (rs : List ℕ). records_ok g.labels.count rs g.records.count 0) (sym is) (sym (records-in e)) ∙ r

    pub finds7 : {b : Bool} → code_ok h.labels.count h.records.count (code_in h bs) ≡ b → passes7 bs ≡ b
    unfolding passes7
    finds7 r = ap₂ (λ (g : Header) (code : List ℕ). code_ok g.labels.count g.records.count code) (sym is) (sym code-in) ∙ r

  pub finds-none : None ≡ labels_found (file_labels bs) → passes4 bs ≡ false
  unfolding passes4_over
  finds-none e = not_found (file_labels bs) e

  module _ (ls : List Label) (is : Some ls ≡ labels_found (file_labels bs)) where
    pub finds4 : passes4 bs ≡ true
    unfolding passes4_over
    finds4 = (found (file_labels bs) is).0

    pub labels_are : ls ≡ label_array (or_none (file_labels bs))
    labels_are = (found (file_labels bs) is).1

    label-in : (i : ℕ) → label_at bs i ≡ label_in ls i
    label-in i = sym (array_is_labels (sections bs) bs i) ∙ ap (λ (xs : List Label). label_in xs i) (sym labels_are)

    pub finds5 : {b : Bool} → flows (get_or ls 0 no_label) (get_or ls 1 no_label) ≡ b → passes5 bs ≡ b
    unfolding passes5_over label_in
    finds5 e = ap₂ flows (label-in 0) (label-in 1) ∙ e

-- The labels of a file that is not refused, at any index.
pub file_label : (bs : List ℕ) (i : ℕ) → label_in (label_array (or_none (file_labels bs))) i ≡ label_at bs i
file_label bs i = array_is_labels (sections bs) bs i
