-- `label_entries::has` meets its contract. Assumes nothing.
use Rattle.label_entries.proofs.Words.{has_test}
use Rattle.label_entries.proofs.has.Goals as goal

pub returns : goal.returns
returns c = has_test _ _
