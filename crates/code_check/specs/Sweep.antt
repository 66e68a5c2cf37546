-- Check 7. "Code: unknown opcode, cut operand, label index L or more, INPUT index C or more, local above 15, target not an
-- instruction's start, or last instruction not END, JUMP or THROW."
use Rattle.std.specs.Prelude.{Bool, true, cond, ◌&&◌, ◌||◌, List, [], ◌∷◌, ℕ, zero, suc, ◌+◌, leb, ltb, eqb, length}
use Rattle.formulas.specs.Lists.{among}
use Rattle.model.specs.Decoding.{byte, known, size, fetch}
use Rattle.model.specs.declared.Instr.{Instr}
use Rattle.model.specs.declared.Instr.TheVariants.{End, Push, Lab, Get, Set, Pop, Add, Sub, Less, Same, Jump, Ifz, Cur, Clr, Raise, Lower, Flows, Join, Meet, Seal, Open, Labof, New, Read, Write, Block, Try, Done, Throw, Input}

-- the starts of the instructions from place i on, by one sweep; f bounds their number
unfoldable pub sweep : ℕ → List ℕ → ℕ → List ℕ
sweep zero code i = []
sweep (suc f) code i = cond (ltb i (length code)) (i ∷ sweep f code (i + size (byte code i))) []

-- Each instruction has a byte at least, so the code's length bounds their number.
unfoldable pub starts : List ℕ → List ℕ
starts code = sweep (length code) code 0

abbrev pub all : (ℕ → Bool) → List ℕ → Bool
all f [] = true
all f (i ∷ is) = f i && all f is

-- the operands, in a file of l labels and c input records; is are the starts
unfoldable pub operands_ok : ℕ → ℕ → List ℕ → Instr → Bool
operands_ok l c is (Lab i) = ltb i l
operands_ok l c is (Get i) = leb i 15
operands_ok l c is (Set i) = leb i 15
operands_ok l c is (Jump t) = among t is
operands_ok l c is (Ifz t) = among t is
operands_ok l c is (Block t n k) = among t is
operands_ok l c is (Try h) = among h is
operands_ok l c is (Input i) = ltb i c
operands_ok l c is (Push n) = true
operands_ok l c is End = true
operands_ok l c is Pop = true
operands_ok l c is Add = true
operands_ok l c is Sub = true
operands_ok l c is Less = true
operands_ok l c is Same = true
operands_ok l c is Cur = true
operands_ok l c is Clr = true
operands_ok l c is Raise = true
operands_ok l c is Lower = true
operands_ok l c is Flows = true
operands_ok l c is Join = true
operands_ok l c is Meet = true
operands_ok l c is Seal = true
operands_ok l c is Open = true
operands_ok l c is Labof = true
operands_ok l c is New = true
operands_ok l c is Read = true
operands_ok l c is Write = true
operands_ok l c is Done = true
operands_ok l c is Throw = true

-- the opcode is known, its operands are not cut, and they are within their limits
unfoldable pub instr_ok : ℕ → ℕ → List ℕ → ℕ → Bool
instr_ok l c code i =
    known (byte code i) && (leb (i + size (byte code i)) (length code) && operands_ok l c (starts code) (fetch code i))

-- END, JUMP and THROW, by their opcodes
unfoldable pub may_be_last : ℕ → Bool
may_be_last op = eqb op 0x00 || (eqb op 0x0A || eqb op 0x1C)

abbrev pub last_of : ℕ → List ℕ → ℕ
last_of d [] = d
last_of d (i ∷ is) = last_of i is

unfoldable pub code_ok : ℕ → ℕ → List ℕ → Bool
code_ok l c code = all (instr_ok l c code) (starts code) && may_be_last (byte code (last_of 0 (starts code)))
