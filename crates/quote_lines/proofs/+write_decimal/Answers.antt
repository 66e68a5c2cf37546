-- `quote_lines::write_decimal` meets its contract: one digit, or those of a tenth of the number and one more.
use mathlib.Core.List.{List, [], ◌∷◌}
use mathlib.Core.Path.{◌≡◌, refl, sym, ap, ◌∙◌}
use Prim.Native.Nat.{ℕ, ◌+◌, ◌/◌, ◌%◌, ◌≤◌, ◌<◌}
use native.Mathlib.Omega.{arith}
use lib.ListN.{length, set, length-append}
use Rattle.lines.specs.Lines.{decimal}
use Rattle.view_fields.specs.Writing.{over}
use Rattle.view_fields.proofs.Buffers.{Writing, start, first, byte, ends, ends_at}
use Rattle.quote_lines.proofs.Decimal.{one_digit, more_digits}
use Rattle.quote_lines.proofs.+write_decimal.Goals as goal

-- ── one digit ──

module _ (n : ℕ) (out : List ℕ) (small : n < 10) (room : length (decimal n) ≤ length out) where
  fits : 0 < length out
  fits = omega (arith, ap length (one_digit n small))

  digit : Writing (decimal n) [] out (set out 0 (0x30 + n)) (0 + 1)
  digit = byte (start (sym (one_digit n small))) refl fits

-- ── those of a tenth, and one more ──

longer : (n : ℕ) → 10 ≤ n → length (decimal n) ≡ length (decimal (n / 10)) + 1
longer n large = ap length (more_digits n large) ∙ length-append (decimal (n / 10)) ((0x30 + n % 10) ∷ [])

module _ (n : ℕ) (out new : List ℕ) (tenth : ℕ) (large : 10 ≤ n) (room : length (decimal n) ≤ length out)
    (count : tenth ≡ length (decimal (n / 10))) (written : new ≡ over (decimal (n / 10)) out) where
  is_long : tenth + 1 ≡ length (decimal n)
  is_long = omega (arith, longer n large, count)

  before : Writing (decimal n) ((0x30 + n % 10) ∷ []) out new tenth
  before = first (decimal (n / 10)) (more_digits n large) (sym count) (omega (arith, is_long)) written

  last_digit : Writing (decimal n) [] out (set new tenth (0x30 + n % 10)) (tenth + 1)
  last_digit = byte before refl (omega (arith, is_long))

pub bounds-out-0 : goal.bounds-out-0
bounds-out-0 t c = fits c.args.n c.args.out.now c.if-n-lt10.true c.requires

pub returns-then-n-lt10-clause-count : goal.returns-then-n-lt10-clause-count
returns-then-n-lt10-clause-count t c = ends_at (digit c.args.n c.args.out.now c.if-n-lt10.true c.requires) refl

pub returns-then-n-lt10-clause-written : goal.returns-then-n-lt10-clause-written
returns-then-n-lt10-clause-written t c = ends (digit c.args.n c.args.out.now c.if-n-lt10.true c.requires) refl

pub write_decimal-at-requires : goal.write_decimal-at-requires
write_decimal-at-requires t c = (omega arith, omega (arith, longer c.args.n c.if-n-lt10.false, c.requires))

pub bounds-out-at : goal.bounds-out-at
bounds-out-at t c =
    let d = c.write_decimal-at.ensures in
    let w = before c.args.n c.args.out.now c.write_decimal-at.new.out c.write_decimal-at.result c.if-n-lt10.false c.requires d.count d.written in
    omega (arith, longer c.args.n c.if-n-lt10.false, w.same)

pub overflow_add-result : goal.overflow_add-result
overflow_add-result t c = omega (arith, longer c.args.n c.if-n-lt10.false)

pub returns-clause-count : goal.returns-clause-count
returns-clause-count t c = omega (arith, longer c.args.n c.if-n-lt10.false)

pub returns-clause-written : goal.returns-clause-written
returns-clause-written t c =
    let d = c.write_decimal-at.ensures in
    ends (last_digit c.args.n c.args.out.now c.write_decimal-at.new.out c.write_decimal-at.result c.if-n-lt10.false c.requires d.count d.written) refl
