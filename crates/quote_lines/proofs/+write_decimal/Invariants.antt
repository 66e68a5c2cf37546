-- `quote_lines::write_decimal`: the number falls.
use Rattle.quote_lines.proofs.+write_decimal.Given as goal

abbrev pub decreases-write_decimal : goal.decreases-write_decimal
decreases-write_decimal l = l.n
