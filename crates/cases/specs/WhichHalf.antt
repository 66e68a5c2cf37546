-- T-02: "faults 23, 24 and 25 carry as their number 1 for secrecy, 2 for integrity, 3 for both." These cases, from 13 on,
-- are that request's, and not of the list P1 to P12.
use Rattle.std.specs.Prelude.{List, [], ◌∷◌, ◌++◌, ℕ}
use Rattle.labels.specs.Cases.{Case}
use Rattle.cases.specs.Machine.{file, public_entry, player_entry, faults_with, result_is}

-- label entries: ⟨True, bench⟩ and ⟨player, bench⟩. Between these, ⟨True, True⟩ and ⟨player, True⟩, secrecy fails where
-- player goes to True, and integrity where True goes to bench.
abbrev bench_entry : List ℕ
bench_entry = 0 ∷ 1 ∷ 0x04 ∷ []

abbrev player_bench_entry : List ℕ
player_bench_entry = 1 ∷ 1 ∷ 0x01 ∷ 0x04 ∷ []

-- the file of labels 0, 1 and 2, which are the start, the clearance and the one that the code names; 10 steps, 1 place
abbrev script : List ℕ → List ℕ → List ℕ → List ℕ → List ℕ
script start clearance named code = file 3 (start ++ clearance ++ named) 0 [] code 10 1

-- PUSH 0, LAB 2, SEAL, END
abbrev seal : List ℕ
seal = 0x01 ∷ 0 ∷ 0 ∷ 0 ∷ 0 ∷ 0x02 ∷ 2 ∷ 0x13 ∷ 0x00 ∷ []

-- LAB 2, RAISE, END
abbrev raise : List ℕ
raise = 0x02 ∷ 2 ∷ 0x0E ∷ 0x00 ∷ []

-- LAB 2, LOWER, END
abbrev lower : List ℕ
lower = 0x02 ∷ 2 ∷ 0x0F ∷ 0x00 ∷ []

-- LAB 0, BLOCK with the body at 10, 4 steps and no places, OPEN, END; the body is LAB 2, RAISE, CUR, END
abbrev block : List ℕ
block = 0x02 ∷ 0 ∷ 0x19 ∷ 10 ∷ 0 ∷ 4 ∷ 0 ∷ 0 ∷ 0x14 ∷ 0x00 ∷ 0x02 ∷ 2 ∷ 0x0E ∷ 0x0C ∷ 0x00 ∷ []

-- LAB 0, LAB 2, FLOWS, END
abbrev flow : List ℕ
flow = 0x02 ∷ 0 ∷ 0x02 ∷ 2 ∷ 0x10 ∷ 0x00 ∷ []

abbrev pub which_half_cases : List Case
which_half_cases =
    -- 23, the current label to SEAL's: ⟨player, True⟩ to ⟨True, True⟩, ⟨True, True⟩ to ⟨True, bench⟩, ⟨player, True⟩ to
    -- ⟨True, bench⟩
    record { number = 13; holds = faults_with (script player_entry player_entry public_entry seal) 23 1 }
    ∷ record { number = 14; holds = faults_with (script public_entry public_entry bench_entry seal) 23 2 }
    ∷ record { number = 15; holds = faults_with (script player_entry player_entry bench_entry seal) 23 3 }
    -- 24, SEAL's label to the clearance: ⟨player, bench⟩, ⟨True, True⟩, ⟨player, True⟩ to ⟨True, bench⟩
    ∷ record { number = 16; holds = faults_with (script bench_entry bench_entry player_bench_entry seal) 24 1 }
    ∷ record { number = 17; holds = faults_with (script bench_entry bench_entry public_entry seal) 24 2 }
    ∷ record { number = 18; holds = faults_with (script bench_entry bench_entry player_entry seal) 24 3 }
    -- 24, the label raised by RAISE to the clearance: the same three, since a join with ⟨True, bench⟩ changes none of them
    ∷ record { number = 19; holds = faults_with (script bench_entry bench_entry player_bench_entry raise) 24 1 }
    ∷ record { number = 20; holds = faults_with (script bench_entry bench_entry public_entry raise) 24 2 }
    ∷ record { number = 21; holds = faults_with (script bench_entry bench_entry player_entry raise) 24 3 }
    -- 25 where the first test alone fails, the current label to the new clearance: labels as for 23
    ∷ record { number = 22; holds = faults_with (script player_entry player_entry public_entry lower) 25 1 }
    ∷ record { number = 23; holds = faults_with (script public_entry public_entry bench_entry lower) 25 2 }
    ∷ record { number = 24; holds = faults_with (script player_entry player_entry bench_entry lower) 25 3 }
    -- 25 where the second alone fails, the new clearance to the old one: labels as for 24
    ∷ record { number = 25; holds = faults_with (script bench_entry bench_entry player_bench_entry lower) 25 1 }
    ∷ record { number = 26; holds = faults_with (script bench_entry bench_entry public_entry lower) 25 2 }
    ∷ record { number = 27; holds = faults_with (script bench_entry bench_entry player_entry lower) 25 3 }
    -- 25 where both fail, "the first failing of its two tests speaks": ⟨True, True⟩ to ⟨player, bench⟩ by integrity, and
    -- back by secrecy; ⟨player, bench⟩ to ⟨True, True⟩ by secrecy, and back by integrity
    ∷ record { number = 28; holds = faults_with (script public_entry public_entry player_bench_entry lower) 25 2 }
    ∷ record { number = 29; holds = faults_with (script player_bench_entry player_bench_entry public_entry lower) 25 1 }
    -- 31 keeps number 0: the body ends with ⟨player, True⟩, which fails the bound ⟨True, bench⟩ in both halves
    ∷ record { number = 30; holds = faults_with (script bench_entry player_entry player_entry block) 31 0 }
    -- FLOWS pushes 1 where it flows, ⟨True, bench⟩ to ⟨player, True⟩, and 0 where secrecy, integrity or both fail: labels as
    -- for 23
    ∷ record { number = 31; holds = result_is (script bench_entry bench_entry player_entry flow) 1 }
    ∷ record { number = 32; holds = result_is (script player_entry player_entry public_entry flow) 0 }
    ∷ record { number = 33; holds = result_is (script public_entry public_entry bench_entry flow) 0 }
    ∷ record { number = 34; holds = result_is (script player_entry player_entry bench_entry flow) 0 }
    ∷ []
