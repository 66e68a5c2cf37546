-- T-03: "a caught fault gives back the clearance that stood at TRY. The label stays as at the throw." These cases, from 35 on,
-- are that request's.
use Rattle.std.specs.Prelude.{Bool, ◌&&◌, List, [], ◌∷◌, ◌++◌, ℕ}
use Rattle.labels.specs.Tables.{principals}
use Rattle.labels.specs.Order.{label}
use Rattle.labels.specs.Cases.{Case}
use Rattle.labels.specs.declared.Label.{Label}
use Rattle.model.specs.State.{at}
use Rattle.script_file.specs.Program.{file_run}
use Rattle.view_fields.specs.Fields.{little_endian, value_field, label_field}
use Rattle.view.specs.Layout.{slot_field}
use Rattle.cases.specs.Machine.{file, public_entry, player_entry, public, same_bytes, faults_with, result_is, result_is_label}

-- ── the file: start and label 0 are public, the clearance is ⟨player and dealer, True⟩, label 2 and record 0 are
-- ⟨player, True⟩; record 0 is sealed and holds 7; 20 steps, 1 place left ──

abbrev both_entry : List ℕ
both_entry = 2 ∷ 0 ∷ 0x01 ∷ 0x02 ∷ []

abbrev both : Label
both = label (0x01 ∷ 0x02 ∷ []) []

abbrev player : Label
player = label (0x01 ∷ []) []

abbrev script : List ℕ → List ℕ
script code = file 3 (public_entry ++ both_entry ++ player_entry) 1 (0 ∷ 2 ∷ little_endian 4 7) code 20 2

abbrev label_is : List ℕ → Label → Bool
label_is bs l = same_bytes (label_field principals (file_run bs).account.label) (label_field principals l)

abbrev clearance_is : List ℕ → Label → Bool
clearance_is bs l = same_bytes (label_field principals (file_run bs).account.clearance) (label_field principals l)

-- ── code, with its bytes counted ──

-- TRY t: 3 bytes
abbrev try : ℕ → List ℕ
try t = 0x1A ∷ t ∷ 0 ∷ []

-- LAB i, LOWER: 3
abbrev lower_to : ℕ → List ℕ
lower_to i = 0x02 ∷ i ∷ 0x0F ∷ []

-- PUSH 5, THROW: 6
abbrev throw : List ℕ
throw = 0x01 ∷ 5 ∷ 0 ∷ 0 ∷ 0 ∷ 0x1C ∷ []

-- INPUT 0, OPEN: 3
abbrev open_input : List ℕ
open_input = 0x1D ∷ 0 ∷ 0x14 ∷ []

-- CUR, END and CLR, END: 2
abbrev end_label : List ℕ
end_label = 0x0C ∷ 0x00 ∷ []

abbrev end_clearance : List ℕ
end_clearance = 0x0D ∷ 0x00 ∷ []

-- LAB 0, BLOCK with the body at t, 10 steps and no places: 8
abbrev block : ℕ → List ℕ
block t = 0x02 ∷ 0 ∷ 0x19 ∷ t ∷ 0 ∷ 10 ∷ 0 ∷ 0 ∷ []

-- ── the scripts ──

-- lowered inside TRY: the handler, at 12, opens what the lowered clearance forbids
abbrev inside : List ℕ
inside = script (try 12 ++ lower_to 0 ++ throw ++ open_input ++ 0x00 ∷ [])

-- lowered before TRY: it stays so
abbrev before : List ℕ
before = script (lower_to 0 ++ try 12 ++ throw ++ open_input ++ 0x00 ∷ [])

-- TRY 7, INPUT 0, OPEN, THROW; the handler
abbrev raised : List ℕ → List ℕ
raised handler = script (try 7 ++ open_input ++ 0x1C ∷ handler)

-- two frames: at the first the clearance is ⟨player and dealer, True⟩, at the second, whose handler is at 18, ⟨player, True⟩,
-- at the throw it is public
abbrev nested : ℕ → List ℕ → List ℕ
nested first handlers = script (try first ++ lower_to 2 ++ try 18 ++ lower_to 0 ++ throw ++ handlers)

-- DONE at 6
abbrev done : List ℕ → List ℕ
done end = script (try 7 ++ lower_to 0 ++ 0x1B ∷ end)

-- a body at 10, which lowers to ⟨player, True⟩, tries, lowers to public, throws, and gives the clearance at its handler
abbrev body : List ℕ → List ℕ
body end = script (block 10 ++ end ++ lower_to 2 ++ try 25 ++ lower_to 0 ++ throw ++ end_clearance)

-- a frame, whose handler is at 13, and a body at 15 that lowers and throws
abbrev crossing : List ℕ
crossing = script (try 13 ++ block 15 ++ end_clearance ++ end_label ++ lower_to 0 ++ throw)

abbrev uncaught : List ℕ
uncaught = script (lower_to 0 ++ throw)

abbrev pub catching_cases : List Case
catching_cases =
    record { number = 35; holds = result_is inside 7 }
    ∷ record { number = 36; holds = faults_with before 24 1 }
    -- the label stays as at the throw: the number that was thrown is the record's
    ∷ record { number = 37; holds = result_is_label (raised end_label) player }
    ∷ record { number = 38; holds = result_is (raised (0x00 ∷ [])) 7 && label_is (raised (0x00 ∷ [])) player }
    -- of nested frames the newest gives back its own; once it is gone, the next one its own
    ∷ record { number = 39; holds = result_is_label (nested 20 (end_clearance ++ end_label)) player }
    ∷ record { number = 40; holds = result_is_label (nested 24 (throw ++ end_clearance)) both }
    -- DONE gives nothing back
    ∷ record { number = 41; holds = result_is_label (done end_clearance) public }
    -- a body's frame gives back the clearance at its TRY; behind the block the outer one is as before
    ∷ record { number = 42; holds = result_is_label (body (0x14 ∷ 0x00 ∷ [])) player }
    ∷ record { number = 43; holds = result_is_label (body end_clearance) both }
    -- a body's uncaught fault is sealed; the outer frame catches nothing
    ∷ record {
      number = 44;
      holds = result_is_label crossing both && same_bytes (slot_field principals 1 (at (file_run crossing).store 1)) (1 ∷ 0 ∷ label_field principals public ++ value_field principals 5 30 5);
    }
    -- an uncaught fault leaves the clearance as it is at the throw, also where a frame was dropped
    ∷ record { number = 45; holds = faults_with uncaught 30 5 && clearance_is uncaught public }
    ∷ record { number = 46; holds = faults_with (done throw) 30 5 && clearance_is (done throw) public }
    ∷ []
