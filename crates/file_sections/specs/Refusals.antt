-- The published refusals of files and days, and their numbers.
use Rattle.std.specs.Prelude.{List, [], ◌∷◌, ℕ, zero, suc, ◌-◌, get_or, Result, Ok, Err}
use Rattle.file_sections.specs.declared.Refusal.{Refusal}
use Rattle.file_sections.specs.declared.Refusal.TheVariants.{Size, Counts, Offsets, Labels, Start, Records, Code}
use Rattle.file_sections.specs.declared.Refusal.TheVariants.{Reader, Room, Jobs, Ahead}

abbrev pub refusal_number : Refusal → ℕ
refusal_number Size = 1
refusal_number Counts = 2
refusal_number Offsets = 3
refusal_number Labels = 4
refusal_number Start = 5
refusal_number Records = 6
refusal_number Code = 7
refusal_number Reader = 8
refusal_number Room = 9
refusal_number Jobs = 10
refusal_number Ahead = 11

-- in the order of their numbers, from 1
abbrev pub refusals : List Refusal
refusals = Size ∷ Counts ∷ Offsets ∷ Labels ∷ Start ∷ Records ∷ Code ∷ Reader ∷ Room ∷ Jobs ∷ Ahead ∷ []

-- the refusal with a number from 1 to 11
abbrev pub refusal_of : ℕ → Refusal
refusal_of n = get_or refusals (n - 1) Size

-- what is given where the refusal with this number stands in the way, or none does: 0
abbrev pub answer : {A : Type 0} → ℕ → A → Result A Refusal
answer zero a = Ok a
answer (suc n) a = Err (refusal_of (suc n))
