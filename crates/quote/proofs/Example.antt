-- Quotes that the checker computes from the definition.
use mathlib.Core.List.{[], ◌∷◌}
use mathlib.Core.Path.{◌≡◌, refl}
use Rattle.std.specs.Prelude.{Ok, Err}
use Rattle.file_sections.specs.declared.Refusal.TheVariants.{Ahead}
use Rattle.model.specs.Decoding.{u16, u32, operand_bytes, size, instrs, fetch, after}
use Rattle.code_check.specs.Sweep.{sweep, starts}
use Rattle.quote.specs.Paths.{largest}
use Rattle.quote.specs.Quoting.{node, node_at, all_ahead, code_quote}

-- IFZ 6, SEAL, SEAL, END; at 6 CUR, CUR, CUR, END. The most steps are of the one way, the most places of the other.
two_paths : code_quote (0x0B ∷ 6 ∷ 0 ∷ 0x13 ∷ 0x13 ∷ 0x00 ∷ 0x0C ∷ 0x0C ∷ 0x0C ∷ 0x00 ∷ []) ≡ Ok (record { steps = 5; places = 2 })
unfolding code_quote all_ahead node_at node largest starts sweep size operand_bytes fetch after instrs u16 u32
two_paths = refl

-- BLOCK 7 with 9 steps and 2 places, END; at 7 its body, SEAL and THROW, which is not followed.
a_block : code_quote (0x19 ∷ 7 ∷ 0 ∷ 9 ∷ 0 ∷ 2 ∷ 0x00 ∷ 0x13 ∷ 0x1C ∷ []) ≡ Ok (record { steps = 11; places = 3 })
unfolding code_quote all_ahead node_at node largest starts sweep size operand_bytes fetch after instrs u16 u32
a_block = refl

-- JUMP to itself.
own_start : code_quote (0x0A ∷ 0 ∷ 0 ∷ []) ≡ Err Ahead
unfolding code_quote all_ahead node_at node largest starts sweep size operand_bytes fetch after instrs u16 u32
own_start = refl

-- END, then TRY 4 and END where no path comes.
dead_try : code_quote (0x00 ∷ 0x1A ∷ 4 ∷ 0 ∷ 0x00 ∷ []) ≡ Err Ahead
unfolding code_quote all_ahead node_at node largest starts sweep size operand_bytes fetch after instrs u16 u32
dead_try = refl
