-- `day::show_skipped` meets its contract.
use Rattle.std.proofs.Common.{refl, arith}
use Rattle.day.specs.Views.{skipped_view}
use Rattle.day.proofs.Views.{shown_fits, shown_not, length_skipped}
use Rattle.day.proofs.show_skipped.Goals as goal

pub returns-then-at-out : goal.returns-then-at-out
returns-then-at-out c = record {
  long = refl;
  written = shown_fits _ skipped_view _ _ (omega (arith, c.if-at-out.true, length_skipped)) c.write_skipped.ensures;
}

pub returns-else-at-out : goal.returns-else-at-out
returns-else-at-out c = record { long = refl; written = shown_not _ skipped_view _ (omega (arith, c.if-at-out.false, length_skipped)) }
