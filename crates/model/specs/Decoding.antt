-- Running: the opcodes with their operand bytes. Total: an opcode above 1D is END, and past the end of the code stands an
-- END that nothing follows; no run of an accepted file comes to either.
use Rattle.std.specs.Prelude.{Bool, cond, List, [], ◌∷◌, ℕ, ◌+◌, ◌*◌, ltb, length, get_or}
use Rattle.model.specs.declared.Instr.{Instr}
use Rattle.model.specs.declared.Instr.TheVariants.{End, Push, Lab, Get, Set, Pop, Add, Sub, Less, Same, Jump, Ifz, Cur, Clr, Raise, Lower, Flows, Join, Meet, Seal, Open, Labof, New, Read, Write, Block, Try, Done, Throw, Input}

abbrev pub byte : List ℕ → ℕ → ℕ
byte bs i = get_or bs i 0

-- little-endian numbers
unfoldable pub u16 : List ℕ → ℕ → ℕ
u16 bs i = byte bs i + 256 * byte bs (i + 1)

unfoldable pub u32 : List ℕ → ℕ → ℕ
u32 bs i = u16 bs i + 65536 * u16 bs (i + 2)

-- how many operand bytes follow each opcode, 00 to 1D
unfoldable pub operand_bytes : List ℕ
operand_bytes =
    0 ∷ 4 ∷ 1 ∷ 1 ∷ 1 ∷ 0 ∷ 0 ∷ 0 ∷ 0 ∷ 0 ∷ 2 ∷ 2 ∷ 0 ∷ 0 ∷ 0 ∷ 0
    ∷ 0 ∷ 0 ∷ 0 ∷ 0 ∷ 0 ∷ 0 ∷ 0 ∷ 0 ∷ 0 ∷ 5 ∷ 2 ∷ 0 ∷ 0 ∷ 1 ∷ []

unfoldable pub known : ℕ → Bool
known op = ltb op 30

-- the bytes of an instruction, by its opcode
unfoldable pub size : ℕ → ℕ
size op = 1 + get_or operand_bytes op 0

-- the instructions in the order of their opcodes, with the operands that stand at place i
unfoldable pub instrs : List ℕ → ℕ → List Instr
instrs code i =
    End ∷ Push (u32 code i) ∷ Lab (byte code i) ∷ Get (byte code i) ∷ Set (byte code i) ∷ Pop
    ∷ Add ∷ Sub ∷ Less ∷ Same ∷ Jump (u16 code i) ∷ Ifz (u16 code i)
    ∷ Cur ∷ Clr ∷ Raise ∷ Lower ∷ Flows ∷ Join ∷ Meet
    ∷ Seal ∷ Open ∷ Labof ∷ New ∷ Read ∷ Write
    ∷ Block (u16 code i) (u16 code (i + 2)) (byte code (i + 4))
    ∷ Try (u16 code i) ∷ Done ∷ Throw ∷ Input (byte code i) ∷ []

-- the instruction at a place of the code, and where the next one starts
unfoldable pub fetch : List ℕ → ℕ → Instr
fetch code pc = get_or (instrs code (pc + 1)) (byte code pc) End

unfoldable pub after : List ℕ → ℕ → ℕ
after code pc = cond (ltb pc (length code)) (pc + size (byte code pc)) pc
