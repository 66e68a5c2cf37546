-- The number has one digit, or two of which the first is 1.
use Rattle.std.proofs.Common.{◌≡◌, refl, sym, ap, arith, List, [], ◌∷◌, ℕ, ◌+◌, ◌-◌, ◌≤◌, ◌<◌, length, set}
use Rattle.lines.specs.Lines.{refused_line}
use Rattle.lines.proofs.Printing.{refused_text, refused_short, refused_long}
use Rattle.view_fields.specs.Writing.{over}
use Rattle.view_fields.proofs.Buffers.{first, byte, piece, ends, two, part, back}
use Rattle.lines.proofs.write_refused.Goals as goal

-- a number of one digit
short : (n : ℕ) (out : List ℕ) {t d : List ℕ} → n < 10 → 11 ≤ length out → t ≡ over refused_text out
    → d ≡ over ((0x30 + n) ∷ 0x0A ∷ []) (part 8 t)
    → (10 ≡ length (refused_line n)) × (back 8 t d ≡ over (refused_line n) out)
short n out h room p q =
    let e = refused_short n h in
    (sym (ap length e), rw e (two refused_text ((0x30 + n) ∷ 0x0A ∷ []) out refl refl (omega arith) p q))

-- a number of two digits
long : (n : ℕ) (out : List ℕ) {t d : List ℕ} → 10 ≤ n → n < 20 → 11 ≤ length out → t ≡ over refused_text out
    → d ≡ over ((0x30 + (n - 10)) ∷ 0x0A ∷ []) (part 9 (set t 8 0x31))
    → (11 ≡ length (refused_line n)) × (back 9 (set t 8 0x31) d ≡ over (refused_line n) out)
long n out h g room p q =
    let e = refused_long n h g in
    let one = byte (first refused_text e refl (omega arith) p) refl (omega arith) in
    (sym (ap length e), ends (piece one ((0x30 + (n - 10)) ∷ 0x0A ∷ []) {l = []} refl refl (omega arith) q) refl)

pub returns-then-n-lt10 : goal.returns-then-n-lt10
returns-then-n-lt10 c =
    let e = short c.args.n c.args.out.now c.if-n-lt10.true c.requires.1 c.write_bytes.ensures c.write_pair.ensures in
    record { count = e.0; written = e.1 }

pub returns : goal.returns
returns c =
    let e = long c.args.n c.args.out.now c.if-n-lt10.false c.requires.0 c.requires.1 c.write_bytes.ensures c.write_pair-2.ensures in
    record { count = e.0; written = e.1 }
