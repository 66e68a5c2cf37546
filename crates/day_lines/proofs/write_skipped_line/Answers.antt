-- `day_lines::write_skipped_line` meets its contract. Assumes nothing.
use Rattle.std.proofs.Common.{◌≡◌, ◌∙◌}
use Rattle.day.specs.Views.{skipped_view}
use Rattle.day_lines.proofs.Jobs.{skipped_alone}
use Rattle.day_lines.proofs.write_skipped_line.Goals as goal

pub write_line-requires : goal.write_line-requires
write_line-requires c =
    -- what the local array holds
    let held : c.write_skipped.new.out ≡ skipped_view = c.write_skipped.ensures ∙ skipped_alone in
    rw held c.requires

pub returns : goal.returns
returns c =
    let held : c.write_skipped.new.out ≡ skipped_view = c.write_skipped.ensures ∙ skipped_alone in
    record { long = rw held at c.write_line.ensures.count; written = rw held at c.write_line.ensures.written }
