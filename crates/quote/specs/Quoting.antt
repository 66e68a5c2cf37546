-- T-04: what a plain file's code may cost, before it is run. "a path stops at END or THROW, SEAL and NEW always cost a place,
-- and BLOCK costs 1 + n steps and k + 1 places, its body not followed".
use Rattle.std.specs.Prelude.{Bool, true, false, cond, List, [], ◌∷◌, ℕ, ◌+◌, ltb, eqb, length, Result, Ok, Err}
use Rattle.model.specs.Decoding.{fetch, after}
use Rattle.model.specs.declared.Instr.{Instr}
use Rattle.model.specs.declared.Instr.TheVariants.{End, Push, Lab, Get, Set, Pop, Add, Sub, Less, Same, Jump, Ifz, Cur, Clr, Raise, Lower, Flows, Join, Meet, Seal, Open, Labof, New, Read, Write, Block, Try, Done, Throw, Input}
use Rattle.code_check.specs.Sweep.{starts, all}
use Rattle.file_sections.specs.Refusals.{refusal_of}
use Rattle.file_sections.specs.declared.Refusal.{Refusal}
use Rattle.file_sections.specs.declared.Refusal.TheVariants.{Ahead}
use Rattle.script_file.specs.Sections.{code_bytes}
use Rattle.script_file.specs.Checks.{refusal}
use Rattle.quote.specs.Paths.{largest}
use Rattle.quote.specs.declared.Figures.{Figures}

-- an instruction on a path
pub record Node : Type 0 where
  pub steps : ℕ
  pub places : ℕ
  -- where the path goes on
  pub successors : List ℕ
  -- check 11 does not apply to it
  pub ahead : Bool

abbrev pub node_is : ℕ → ℕ → List ℕ → Bool → Node
node_is s p is t = record { steps = s; places = p; successors = is; ahead = t }

abbrev pub goes_on : ℕ → Node
goes_on next = node_is 1 0 (next ∷ []) true

abbrev pub makes_record : ℕ → Node
makes_record next = node_is 1 1 (next ∷ []) true

abbrev pub stops_path : Node
stops_path = node_is 1 0 [] true

-- The instruction at place i, next being the place behind it. 11: "a target not ahead or a TRY".
unfoldable pub node : ℕ → ℕ → Instr → Node
node i next End = stops_path
node i next (Push n) = goes_on next
node i next (Lab l) = goes_on next
node i next (Get x) = goes_on next
node i next (Set x) = goes_on next
node i next Pop = goes_on next
node i next Add = goes_on next
node i next Sub = goes_on next
node i next Less = goes_on next
node i next Same = goes_on next
node i next (Jump t) = node_is 1 0 (t ∷ []) (ltb i t)
node i next (Ifz t) = node_is 1 0 (t ∷ next ∷ []) (ltb i t)
node i next Cur = goes_on next
node i next Clr = goes_on next
node i next Raise = goes_on next
node i next Lower = goes_on next
node i next Flows = goes_on next
node i next Join = goes_on next
node i next Meet = goes_on next
node i next Seal = makes_record next
node i next Open = goes_on next
node i next Labof = goes_on next
node i next New = makes_record next
node i next Read = goes_on next
node i next Write = goes_on next
node i next (Block t n k) = node_is (1 + n) (k + 1) (next ∷ []) (ltb i t)
node i next (Try h) = node_is 1 0 (next ∷ []) false
node i next Done = goes_on next
node i next Throw = stops_path
node i next (Input x) = goes_on next

unfoldable pub node_at : List ℕ → ℕ → Node
node_at code i = node i (after code i) (fetch code i)

abbrev pub steps_at : List ℕ → ℕ → ℕ
steps_at code i = (node_at code i).steps

abbrev pub places_at : List ℕ → ℕ → ℕ
places_at code i = (node_at code i).places

abbrev pub successors_at : List ℕ → ℕ → List ℕ
successors_at code i = (node_at code i).successors

abbrev pub ahead_at : List ℕ → ℕ → Bool
ahead_at code i = (node_at code i).ahead

-- 11: "anywhere in the code", dead code included
unfoldable pub all_ahead : List ℕ → Bool
all_ahead code = all (ahead_at code) (starts code)

-- The largest steps and the largest places, each by itself: they may be of different paths. Each instruction has a byte at
-- least and every target lies ahead, so a path has at most as many instructions as the code has bytes.
abbrev pub figures_from : List ℕ → ℕ → Figures
figures_from code i =
    record { steps = largest (steps_at code) (successors_at code) (length code) i; places = largest (places_at code) (successors_at code) (length code) i }

unfoldable pub code_quote : List ℕ → Result Figures Refusal
code_quote code = cond (all_ahead code) (Ok (figures_from code 0)) (Err Ahead)

-- "Checks: 11, after 7"; "8 and 9 fall away". A file is refused by the first check that stops it, or gets the two figures.
unfoldable pub quoting : List ℕ → Result Figures Refusal
quoting bs = cond (eqb (refusal bs) 0) (code_quote (code_bytes bs)) (Err (refusal_of (refusal bs)))
