-- The number of a refusal is below 20.
use Rattle.std.proofs.Common.{arith, ℕ, ◌<◌}
use Rattle.file_sections.specs.Refusals.{refusal_number}
use Rattle.file_sections.specs.declared.Refusal.{Refusal}
use Rattle.file_sections.specs.declared.Refusal.TheVariants.{Size, Counts, Offsets, Labels, Start, Records, Code, Reader, Room}
use Rattle.file_sections.specs.declared.Refusal.TheVariants.{Jobs, Ahead}
use Rattle.lines.proofs.write_refusal.Goals as goal

small : (r : Refusal) → refusal_number r < 20
small Size = omega arith
small Counts = omega arith
small Offsets = omega arith
small Labels = omega arith
small Start = omega arith
small Records = omega arith
small Code = omega arith
small Reader = omega arith
small Room = omega arith
small Jobs = omega arith
small Ahead = omega arith
