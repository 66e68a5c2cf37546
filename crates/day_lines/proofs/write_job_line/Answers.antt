-- `day_lines::write_job_line` meets its contract.
use Rattle.std.proofs.Common.{ap, ◌∙◌, List, ℕ, length, arith}
use Rattle.view_fields.specs.Writing.{over}
use Rattle.view.specs.Writing.{observes, finished}
use Rattle.file_lines.proofs.Lengths.{line_most}
use Rattle.day_lines.proofs.Jobs.{skipped_line, of_skipped, of_run}
use Rattle.day_lines.proofs.write_job_line.Goals as goal

pub write_skipped_line-requires : goal.write_skipped_line-requires
write_skipped_line-requires c = omega (arith, skipped_line, c.requires)

pub returns-in_default : goal.returns-in_default
returns-in_default c =
    let e = of_skipped (observes c.args.reader) c.args.kept.now c.in_default.is in
    record {
      most = omega (arith, c.write_skipped_line.ensures.long, skipped_line);
      long = c.write_skipped_line.ensures.long ∙ ap length e;
      written = c.write_skipped_line.ensures.written ∙ ap (λ (v : List ℕ). over v c.args.out.now) e;
    }

pub write_shown-requires : goal.write_shown-requires
write_shown-requires c =
    let j = c.in-Some.job in
    omega (arith, line_most (observes c.args.reader) j.steps (finished j.finish j.store) (omega (arith, j.places)), c.requires)

pub returns : goal.returns
returns c =
    let j = c.in-Some.job in
    let e = of_run (observes c.args.reader) c.args.kept.now j c.in-Some.is in
    record {
      most =
          omega (arith, c.write_shown.ensures.count, line_most (observes c.args.reader) j.steps (finished j.finish j.store) (omega (arith, j.places)));
      long = c.write_shown.ensures.count ∙ ap length e;
      written = c.write_shown.ensures.written ∙ ap (λ (v : List ℕ). over v c.args.out.now) e;
    }
