-- `label_entries::write_entry` meets its contract: the counts are known before the first byte is written, and the parts that are
-- filled have their lengths. Assumes nothing.
use native.Mathlib.Omega.{arith}
use Rattle.labels.specs.Tables.{whole}
use Rattle.label_entries.proofs.Listing.{clauses_short}
use Rattle.label_entries.proofs.Writing.{short_answer, short_buffer, whole_answer, whole_buffer}
use Rattle.label_entries.proofs.write_entry.Goals as goal

-- a count fits a byte, and the entry's length a word
pub overflow_add-a : goal.overflow_add-a
overflow_add-a c = omega (arith, c.count_clauses-m.ensures, clauses_short (whole c.args.l.secrecy))

pub overflow_add-e : goal.overflow_add-e
overflow_add-e c =
    omega (arith, c.count_clauses-m.ensures, clauses_short (whole c.args.l.secrecy), c.count_clauses-n.ensures, clauses_short (whole c.args.l.integrity))

pub overflow_cast-out : goal.overflow_cast-out
overflow_cast-out c = omega (arith, c.count_clauses-m.ensures, clauses_short (whole c.args.l.secrecy))

pub overflow_cast-out-2 : goal.overflow_cast-out-2
overflow_cast-out-2 c = omega (arith, c.count_clauses-n.ensures, clauses_short (whole c.args.l.integrity))

pub returns-then-out-e : goal.returns-then-out-e
returns-then-out-e c = (
  short_answer c.args.l c.args.out.now _ _ c.count_clauses-m.ensures c.count_clauses-n.ensures (omega (arith, c.if-out-e.true)),
  short_buffer c.args.l c.args.out.now _ _ c.count_clauses-m.ensures c.count_clauses-n.ensures (omega (arith, c.if-out-e.true)),
)

pub returns : goal.returns
returns c = (
  whole_answer c.args.l c.args.out.now _ _ c.count_clauses-m.ensures c.count_clauses-n.ensures (omega (arith, c.if-out-e.false)),
  whole_buffer c.args.l c.args.out.now _ _ c.count_clauses-m.ensures c.count_clauses-n.ensures (omega (arith, c.if-out-e.false)) _ _
      c.write_clauses.ensures c.write_clauses-2.ensures,
)
