-- `label_entries::clause_word` meets its contract. Assumes nothing.
use mathlib.Core.Path.{ap, ◌∙◌}
use Rattle.formulas.specs.Bits.{nonzero}
use Rattle.label_entries.proofs.Words.{clause_all, clause_six, nonzero-some}
use Rattle.label_entries.proofs.clause_word.Goals as goal

pub returns-then-mask-k-ne0 : goal.returns-then-mask-k-ne0
returns-then-mask-k-ne0 c = clause_all c.args.mask c.args.k c.requires.0 (nonzero-some _ c.if-mask-k-ne0.true)

pub returns : goal.returns
returns c = c.requires.1 ∙ clause_six c.args.mask c.args.k c.requires.0 (ap nonzero c.if-mask-k-ne0.false)
