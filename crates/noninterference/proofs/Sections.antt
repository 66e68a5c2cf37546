-- Two files that differ in hidden numbers alone: the same labels, the same bytes outside the records, and alike input
-- records. Of the sections that a plain file and a day both have; then of plain files: one header and code.
use Rattle.std.specs.Prelude.{Option}
use mathlib.Core.Bool.{Bool, true, false, true≢false}
use mathlib.Core.List.{List, [], ◌∷◌}
use mathlib.Core.Path.{◌≡◌, refl, sym, ap, ◌∙◌, subst}
use Prim.Native.Nat.{ℕ, zero, suc, ◌+◌, ◌-◌, ◌*◌, ◌≤◌, ◌<◌}
use native.Mathlib.Omega.{arith}
use lib.Dec.{ltb, lit<}
use lib.ListN.{length, get_or, take, drop, length-take, length-drop}
use lib.Seq.{ext_get_or, get_or-take, get_or-drop}
use Rattle.labels.specs.Order.{flows, no_label}
use Rattle.labels.specs.declared.Label.{Label}
use Rattle.model.specs.Decoding.{byte, u16, u32}
use Rattle.model.specs.Inputs.{kind_of, inputs}
use Rattle.model.proofs.Start.{AlikeInputs}
use Rattle.script_file.specs.declared.Header.{Header}
use Rattle.script_file.specs.Sections.{header, sections, code_bytes, file_labels, label_at}
use Rattle.script_file.specs.Checks.{passes1, passes2, passes3, passes4, passes6}
use Rattle.script_file.specs.Program.{file_inputs}
use Rattle.file_sections.specs.Sections.{Sections, read_labels, or_none, inputs_of, label_bytes_of, label_of, labels_of, record_bytes_of, labels_over, inputs_over, label_of_over}
use Rattle.file_sections.proofs.Tests.{Each, every_each}
use Rattle.script_file.proofs.Limits.{Placed, placed}
use Rattle.noninterference.specs.Alike.{record_at, input_label, Hidden, AlikeBy, legible, Alike}

-- ── parts of two lists ──

module _ (bs cs : List ℕ) (sized : length bs ≡ length cs) where
  pub same_drop : (m : ℕ) → ((p : ℕ) → m ≤ p → byte bs p ≡ byte cs p) → drop m bs ≡ drop m cs
  same_drop m h =
      ext_get_or 0 (drop m bs) (drop m cs) (simp length-drop (omega arith))
      (λ p _. get_or-drop m bs p 0 ∙ h (m + p) (omega arith) ∙ sym (get_or-drop m cs p 0))

  same_slice : (m n : ℕ) → ((p : ℕ) → m ≤ p → p < m + n → byte bs p ≡ byte cs p) → take n (drop m bs) ≡ take n (drop m cs)
  same_slice m n h =
      ext_get_or 0 (take n (drop m bs)) (take n (drop m cs)) (simp (length-take, length-drop) (omega arith))
      (λ p lt. let le : p < n = omega (arith, simp length-take at lt) in
      get_or-take n (drop m bs) p 0 le ∙ get_or-drop m bs p 0 ∙ h (m + p) (omega arith) (omega arith)
      ∙ sym (get_or-drop m cs p 0) ∙ sym (get_or-take n (drop m cs) p 0 le))

-- byte q of the record section
record_byte : (s : Sections) (bs : List ℕ) (q : ℕ) → q < 6 * s.records.count → byte (record_bytes_of s bs) q ≡ byte bs (s.records.offset + q)
unfolding record_bytes_of
record_byte s bs q lt =
    get_or-take (6 * s.records.count) (drop s.records.offset bs) q 0 lt ∙ get_or-drop s.records.offset bs q 0

-- ── two files of one length with the same bytes but in hidden numbers ──

module _ (bs cs : List ℕ) (s : Sections) (i : ℕ) (sized : length bs ≡ length cs)
    (same_byte : (p : ℕ) → ¬ Hidden s bs i p → byte bs p ≡ byte cs p) (ordered : s.first ≤ s.records.offset) where
  pub before_records : (p : ℕ) → p < s.records.offset → byte bs p ≡ byte cs p
  before_records p lt = same_byte p (λ h. omega (arith, h.from))

  pub behind_records : (p : ℕ) → s.records.offset + 6 * s.records.count ≤ p → byte bs p ≡ byte cs p
  behind_records p le = same_byte p (λ h. omega (arith, h.counted, h.to))

  pub same_labels : labels_of s bs ≡ labels_of s cs
  unfolding labels_over label_bytes_of
  same_labels =
      ap (read_labels s.labels)
      (same_slice bs cs sized s.first (s.records.offset - s.first) (λ p _ lt. before_records p (omega (arith, ordered))))

  pub same_label : label_of s bs ≡ label_of s cs
  unfolding label_of_over
  same_label = ap {B = ℕ → Label} (λ (o : Option (List Label)) (p : ℕ). get_or (or_none o) p no_label) same_labels

  -- kind and label index of input record j
  record_front : (j p : ℕ) → record_at s j ≤ p → p < record_at s j + 2 → byte bs p ≡ byte cs p
  record_front j p lo hi = same_byte p (λ h. omega (arith, h.from, h.to))

  -- all six bytes of it, if its label flows to the reading label
  record_whole : (j p : ℕ) → record_at s j ≤ p → p < record_at s j + 6 → flows (input_label s bs j) (label_of s bs i) ≡ true → byte bs p ≡ byte cs p
  record_whole j p lo hi f = same_byte p (λ h. true≢false (sym f ∙ ap (λ (n : ℕ). flows (input_label s bs n) (label_of s bs i)) (one h) ∙ h.no_flow))
    where
      one : (h : Hidden s bs i p) → j ≡ h.input
      one h = omega (arith, h.from, h.to)

  -- the same of the record sections
  section_byte : (q : ℕ) → q < 6 * s.records.count → byte bs (s.records.offset + q) ≡ byte cs (s.records.offset + q)
      → byte (record_bytes_of s bs) q ≡ byte (record_bytes_of s cs) q
  section_byte q lt e = record_byte s bs q lt ∙ e ∙ sym (record_byte s cs q lt)

  alike_from : (n j : ℕ) → j + n ≤ s.records.count
      → AlikeInputs (λ l. flows l (label_of s bs i)) (inputs (label_of s bs) (record_bytes_of s bs) n (6 * j)) (inputs (label_of s bs) (record_bytes_of s cs) n (6 * j))
  unfolding inputs u32 u16
  alike_from zero j le = tt
  alike_from (suc n) j le = (
    ap kind_of (section_byte (6 * j) (omega arith) (record_front j (record_at s j) (omega arith) (omega arith))),
    ap (label_of s bs) (section_byte (6 * j + 1) (omega arith) (record_front j (s.records.offset + (6 * j + 1)) (omega arith) (omega arith))),
    (λ f. cc (
      digit f (6 * j + 2) (omega arith) (omega arith),
      digit f (6 * j + 2 + 1) (omega arith) (omega arith),
      digit f (6 * j + 2 + 2) (omega arith) (omega arith),
      digit f (6 * j + 2 + 2 + 1) (omega arith) (omega arith),
    )),
    subst (λ (k : ℕ). AlikeInputs (λ l. flows l (label_of s bs i)) (inputs (label_of s bs) (record_bytes_of s bs) n k) (inputs (label_of s bs) (record_bytes_of s cs) n k))
        (omega arith) (alike_from n (suc j) (omega arith)),
  )
    where
      digit : flows (label_of s bs (byte (record_bytes_of s bs) (6 * j + 1))) (label_of s bs i) ≡ true → (q : ℕ) → 6 * j ≤ q → q < 6 * j + 6
          → byte (record_bytes_of s bs) q ≡ byte (record_bytes_of s cs) q
      digit f q lo hi =
          section_byte q (omega arith)
          (record_whole j (s.records.offset + q) (omega arith) (omega arith)
          (subst (λ (x : ℕ). flows (label_of s bs x) (label_of s bs i) ≡ true) (record_byte s bs (6 * j + 1) (omega arith) ∙ ap (byte bs) (omega arith)) f))

  pub alike_inputs : AlikeInputs (λ l. flows l (label_of s bs i)) (inputs_of s bs) (inputs_of s cs)
  unfolding inputs_over
  alike_inputs =
      subst (λ (ls : ℕ → Label). AlikeInputs (λ l. flows l (label_of s bs i)) (inputs_of s bs) (inputs ls (record_bytes_of s cs) s.records.count 0))
      same_label (alike_from s.records.count 0 (omega arith))

  -- what is hidden is hidden by either file's labels
  hidden_other : (p : ℕ) → Hidden s bs i p → Hidden s cs i p
  hidden_other p h =
      record {
        input = h.input;
        counted = h.counted;
        from = h.from;
        to = h.to;
        no_flow = subst (λ (ls : ℕ → Label). flows (ls (byte cs (record_at s h.input + 1))) (ls i) ≡ false) same_label
            (subst (λ (x : ℕ). flows (label_of s bs x) (label_of s bs i) ≡ false)
            (record_front h.input (record_at s h.input + 1) (omega arith) (omega arith)) h.no_flow);
      }

-- ── two alike files of a kind ──

module _ (legible : List ℕ → ℕ → Bool) (sections : List ℕ → Sections) (bs cs : List ℕ) (i : ℕ) (A : AlikeBy legible sections bs cs i) where
  -- where 1 to 4, 6 or 8 applies to one of them, they are one file
  pub one_or_legible : (G : List ℕ → Type 0) → G bs → (legible bs i ≡ true → legible cs i ≡ true → G cs) → G cs
  one_or_legible G one both = test (legible bs i) (legible cs i) refl refl
    where
      equal : ¬ ((legible bs i ≡ true) × (legible cs i ≡ true)) → G cs
      equal n = subst G (ext_get_or 0 bs cs A.sized (λ p _. A.bytes p (λ (u, v, _). n (u, v)))) one

      test : (s t : Bool) → legible bs i ≡ s → legible cs i ≡ t → G cs
      test true true e f = both e f
      test false t e f = equal (λ (u, v). true≢false (sym u ∙ e))
      test true false e f = equal (λ (u, v). true≢false (sym v ∙ f))

  pub same_but_hidden : legible bs i ≡ true → legible cs i ≡ true → (p : ℕ) → ¬ Hidden (sections bs) bs i p → byte bs p ≡ byte cs p
  same_but_hidden lb lc p h = A.bytes p (λ (u, v, w). h w)

  -- Alikeness is symmetric: what is hidden is hidden by either file's sections and labels.
  pub alike_by_sym : (legible bs i ≡ true → legible cs i ≡ true → ((sections bs).first ≤ (sections bs).records.offset) × (sections bs ≡ sections cs))
      → AlikeBy legible sections cs bs i
  alike_by_sym same = record { sized = sym A.sized; bytes = λ p n. sym (A.bytes p (λ (u, v, h). n (v, u, other p u v h))) }
    where
      other : (p : ℕ) → legible bs i ≡ true → legible cs i ≡ true → Hidden (sections bs) bs i p → Hidden (sections cs) cs i p
      other p lb lc h =
          subst (λ (s : Sections). Hidden s cs i p) (same lb lc).1
          (hidden_other bs cs (sections bs) i A.sized (same_but_hidden lb lc) (same lb lc).0 p h)

-- ── two alike plain files ──

-- none of 1 to 4, 6 and 8 stops the file
pub legible_each : (bs : List ℕ) (i : ℕ) → legible bs i ≡ true
    → Each (passes1 bs ∷ passes2 bs ∷ passes3 bs ∷ passes4 bs ∷ passes6 bs ∷ ltb i (header bs).labels.count ∷ [])
unfolding legible
legible_each bs i e = every_each _ e

module _ (bs cs : List ℕ) (i : ℕ) (A : Alike bs cs i) (lb : legible bs i ≡ true) (lc : legible cs i ≡ true) where
  same_byte : (p : ℕ) → ¬ Hidden (sections bs) bs i p → byte bs p ≡ byte cs p
  same_byte = same_but_hidden legible sections bs cs i A lb lc

  in_order : Placed (header bs) (length bs)
  unfolding passes3
  in_order = placed (header bs) (length bs) (legible_each bs i lb).1.1.0

  head : (p : ℕ) → p < 16 → byte bs p ≡ byte cs p
  head p lt = before_records bs cs (sections bs) i A.sized same_byte in_order.records p (omega (arith, in_order.records))

  pub same_header : header bs ≡ header cs
  unfolding header u16
  same_header =
      cc (
        head 0 (lit< tt),
        head 1 (lit< tt),
        head 2 (lit< tt),
        head 3 (lit< tt),
        head 4 (lit< tt),
        head 5 (lit< tt),
        head 6 (lit< tt),
        head 7 (lit< tt),
        head 8 (lit< tt),
        head 9 (lit< tt),
        head 10 (lit< tt),
        head 11 (lit< tt),
        head 12 (lit< tt),
        head 13 (lit< tt),
        head 14 (lit< tt),
        head 15 (lit< tt),
      )

  same_sections : sections bs ≡ sections cs
  same_sections = ap (λ (h : Header). record { first = 16; labels = h.labels.count; records = h.records }) same_header

  pub same_file_labels : file_labels bs ≡ file_labels cs
  same_file_labels =
      same_labels bs cs (sections bs) i A.sized same_byte in_order.records ∙ ap (λ (s : Sections). labels_of s cs) same_sections

  pub same_file_label : label_at bs ≡ label_at cs
  same_file_label =
      same_label bs cs (sections bs) i A.sized same_byte in_order.records ∙ ap (λ (s : Sections). label_of s cs) same_sections

  pub same_code : code_bytes bs ≡ code_bytes cs
  unfolding code_bytes
  same_code =
      same_drop bs cs A.sized (header bs).code.offset
      (λ p le. behind_records bs cs (sections bs) i A.sized same_byte in_order.records p (omega (arith, in_order.code)))
      ∙ ap (λ (h : Header). drop h.code.offset cs) same_header

  pub alike_file_inputs : AlikeInputs (λ l. flows l (label_at bs i)) (file_inputs bs) (file_inputs cs)
  alike_file_inputs =
      subst (λ (s : Sections). AlikeInputs (λ l. flows l (label_at bs i)) (file_inputs bs) (inputs_of s cs)) same_sections
      (alike_inputs bs cs (sections bs) i A.sized same_byte in_order.records)

pub alike_sym : (bs cs : List ℕ) (i : ℕ) → Alike bs cs i → Alike cs bs i
alike_sym bs cs i A = alike_by_sym legible sections bs cs i A (λ lb lc. ((in_order bs cs i A lb lc).records, same_sections bs cs i A lb lc))
