-- Stopped by the file: checks 1 to 7. "The lowest number that applies is returned."
use Rattle.std.specs.Prelude.{Bool, true, false, List, [], ◌∷◌, ℕ, suc, ◌+◌, ◌*◌, leb, eqb, length}
use Rattle.labels.specs.Tables.{principals}
use Rattle.labels.specs.Order.{flows}
use Rattle.file_sections.specs.Checks.{every, size_within, counts_within, labels_pass, records_pass}
use Rattle.script_file.specs.Sections.{header, sections, code_bytes, label_at_over}
use Rattle.code_check.specs.Sweep.{code_ok}
use Rattle.script_file.specs.declared.Header.{Header}

-- 1: "Under 16 bytes or over 65,535."
unfoldable pub size_ok : ℕ → Bool
size_ok n = size_within 16 n

-- 2: "A count outside its limits."
unfoldable pub counts_ok : Header → Bool
counts_ok h =
    every
    (counts_within h.labels h.records h.code ∷ leb 1 h.steps ∷ leb h.records.count h.places ∷ leb h.places 256 ∷ [])

-- 3: "Labels offset not 16, records offset under 16, code offset not records offset + 6C, or file length not code
-- offset + N." The sums are exact, not modulo 2 ^ 16.
unfoldable pub offsets_ok : Header → ℕ → Bool
offsets_ok h n =
    every
    (eqb h.labels.offset 16 ∷ leb 16 h.records.offset
    ∷ eqb h.code.offset (h.records.offset + 6 * h.records.count) ∷ eqb n (h.code.offset + h.code.count) ∷ [])

-- what each check finds in a file, whatever the others find: true where it does not apply. 4 and 5 read labels over n
-- principals.
unfoldable pub passes1 : List ℕ → Bool
passes1 bs = size_ok (length bs)

unfoldable pub passes2 : List ℕ → Bool
passes2 bs = counts_ok (header bs)

unfoldable pub passes3 : List ℕ → Bool
passes3 bs = offsets_ok (header bs) (length bs)

unfoldable pub passes4_over : ℕ → List ℕ → Bool
passes4_over n bs = labels_pass n (sections bs) bs

-- 5: "Label 0 doesn't flow to label 1."
unfoldable pub passes5_over : ℕ → List ℕ → Bool
passes5_over n bs = flows (label_at_over n bs 0) (label_at_over n bs 1)

unfoldable pub passes6 : List ℕ → Bool
passes6 bs = records_pass (sections bs) bs

unfoldable pub passes7 : List ℕ → Bool
passes7 bs = code_ok (header bs).labels.count (header bs).records.count (code_bytes bs)

-- the number of the first test that fails, counting from n; 0 where none does
abbrev pub lowest : ℕ → List Bool → ℕ
lowest n [] = 0
lowest n (true ∷ ts) = lowest (suc n) ts
lowest n (false ∷ ts) = n

unfoldable pub refusal_over : ℕ → List ℕ → ℕ
refusal_over n bs =
    lowest 1 (passes1 bs ∷ passes2 bs ∷ passes3 bs ∷ passes4_over n bs ∷ passes5_over n bs ∷ passes6 bs ∷ passes7 bs ∷ [])

-- over the principals that there are
abbrev pub passes4 : List ℕ → Bool
passes4 = passes4_over principals

abbrev pub passes5 : List ℕ → Bool
passes5 = passes5_over principals

abbrev pub refusal : List ℕ → ℕ
refusal = refusal_over principals
