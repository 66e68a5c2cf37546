-- Stopped by the file: "Two files are alike for a reading label's index if they have one length and the same bytes everywhere
-- but in hidden numbers. Where 1 to 4, 6 or 8 applies to either, no number is hidden and alike means equal." Of days.
use Rattle.std.specs.Prelude.{Bool, List, [], ◌∷◌, ℕ, ltb}
use Rattle.file_sections.specs.Checks.{every}
use Rattle.day_file.specs.Sections.{day_header, day_sections}
use Rattle.day_file.specs.Checks.{passes1, passes2, passes3, passes4, passes6}
use Rattle.noninterference.specs.Alike.{AlikeBy}

-- none of 1 to 4, 6 and 8 applies. Any of them may apply where another number is returned, 10 too, so each is a test of its own.
unfoldable pub day_legible : List ℕ → ℕ → Bool
day_legible bs i =
    every (passes1 bs ∷ passes2 bs ∷ passes3 bs ∷ passes4 bs ∷ passes6 bs ∷ ltb i (day_header bs).labels.count ∷ [])

abbrev pub DayAlike : List ℕ → List ℕ → ℕ → Type 0
DayAlike bs cs i = AlikeBy day_legible day_sections bs cs i
