-- Bench cases P9 to P12: files, and what the definition makes of them.
use Rattle.std.specs.Prelude.{Bool, true, false, ◌&&◌, List, [], ◌∷◌, ◌++◌, ℕ, ◌+◌, ◌-◌, eqb, length}
use Rattle.labels.specs.Tables.{principals, whole}
use Rattle.labels.specs.Order.{label}
use Rattle.labels.specs.Cases.{Case}
use Rattle.labels.specs.declared.Label.{Label}
use Rattle.model.specs.State.{at}
use Rattle.script_file.specs.Checks.{refusal}
use Rattle.script_file.specs.Program.{file_run}
use Rattle.view_fields.specs.Fields.{little_endian, value_field, label_field, result_field}
use Rattle.view.specs.Layout.{slot_field}
use Rattle.file_sections.specs.Checks.{every}

-- the file of l label entries, c input records, a code, s steps and k places
abbrev pub file : ℕ → List ℕ → ℕ → List ℕ → List ℕ → ℕ → ℕ → List ℕ
file l labels c records code s k =
    little_endian 2 l ++ little_endian 2 16
    ++ little_endian 2 c ++ little_endian 2 (16 + length labels)
    ++ little_endian 2 (length code) ++ little_endian 2 (16 + length labels + length records)
    ++ little_endian 2 s ++ little_endian 2 k
    ++ labels ++ records ++ code

-- label entries: ⟨True, True⟩, which is public, and ⟨player, True⟩
abbrev pub public_entry : List ℕ
public_entry = 0 ∷ 0 ∷ []

abbrev pub player_entry : List ℕ
player_entry = 1 ∷ 0 ∷ 0x01 ∷ []

abbrev pub public : Label
public = label [] []

abbrev pub same_bytes : List ℕ → List ℕ → Bool
same_bytes [] [] = true
same_bytes [] (c ∷ cs) = false
same_bytes (b ∷ bs) [] = false
same_bytes (b ∷ bs) (c ∷ cs) = eqb b c && same_bytes bs cs

-- the file is taken, and the result field of its run is this
abbrev ends_in : List ℕ → List ℕ → Bool
ends_in bs field = every (eqb (refusal bs) 0 ∷ same_bytes (result_field principals (file_run bs).ending) field ∷ [])

-- its run ends with a fault of this code and number
abbrev pub faults_with : List ℕ → ℕ → ℕ → Bool
faults_with bs code n = ends_in bs (value_field principals 5 code n)

-- its run ends with this number as its result
abbrev pub result_is : List ℕ → ℕ → Bool
result_is bs n = ends_in bs (value_field principals 1 n 0)

-- its run ends with this label as its result
abbrev pub result_is_label : List ℕ → Label → Bool
result_is_label bs l = ends_in bs (value_field principals 2 (whole l.secrecy) (whole l.integrity))

-- P9: INPUT 0, OPEN, END under a public clearance; record 0 is sealed, ⟨player, True⟩, number 7. By T-02 the fault has
-- number 1: secrecy fails.
abbrev p9 : List ℕ
p9 = file 3 (public_entry ++ public_entry ++ player_entry) 1 (0 ∷ 2 ∷ little_endian 4 7) (0x1D ∷ 0 ∷ 0x14 ∷ 0x00 ∷ []) 10 1

abbrev holds9 : Bool
holds9 = faults_with p9 24 1

-- P10: LAB 0, BLOCK with the body at 9, 5 steps and no places, END; the body is INPUT 0, OPEN, END. The clearance and
-- record 0 are ⟨player, True⟩. The outcome is at place 1.
abbrev p10 : List ℕ
p10 =
    file 2 (public_entry ++ player_entry) 1 (0 ∷ 1 ∷ little_endian 4 7)
    (0x02 ∷ 0 ∷ 0x19 ∷ 9 ∷ 0 ∷ 5 ∷ 0 ∷ 0 ∷ 0x00 ∷ 0x1D ∷ 0 ∷ 0x14 ∷ 0x00 ∷ []) 10 2

abbrev holds10 : Bool
holds10 =
    every
    (eqb (refusal p10) 0 ∷ same_bytes (slot_field principals 1 (at (file_run p10).store 1)) (1 ∷ 0 ∷ label_field principals public ++ value_field principals 5 31 0)
    ∷ same_bytes (label_field principals (file_run p10).account.label) (label_field principals public) ∷ [])

-- P11: CUR, BLOCK with the body at 7, no steps and no places, END. The outcome is at place 0.
abbrev p11 : List ℕ
p11 = file 2 (public_entry ++ public_entry) 0 [] (0x0C ∷ 0x19 ∷ 7 ∷ 0 ∷ 0 ∷ 0 ∷ 0 ∷ 0x00 ∷ []) 10 1

abbrev holds11 : Bool
holds11 =
    every
    (eqb (refusal p11) 0 ∷ same_bytes (slot_field principals 0 (at (file_run p11).store 0)) (0 ∷ 0 ∷ label_field principals public ++ value_field principals 5 32 0) ∷ [])

-- P12: S 1, PUSH 5, END
abbrev p12 : List ℕ
p12 = file 2 (public_entry ++ public_entry) 0 [] (0x01 ∷ 5 ∷ 0 ∷ 0 ∷ 0 ∷ 0x00 ∷ []) 1 0

abbrev holds12 : Bool
holds12 = every (ends_in p12 (value_field principals 0 0 0) ∷ eqb (1 - (file_run p12).account.steps) 1 ∷ [])

abbrev pub machine_cases : List Case
machine_cases =
    record { number = 9; holds = holds9 }
    ∷ record { number = 10; holds = holds10 }
    ∷ record { number = 11; holds = holds11 }
    ∷ record { number = 12; holds = holds12 }
    ∷ []
