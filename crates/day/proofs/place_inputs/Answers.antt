-- `day::place_inputs` meets its contract.
use Rattle.day.proofs.Views.{inputs_placed}
use Rattle.day.proofs.place_inputs.Goals as goal

pub returns : goal.returns
returns c = inputs_placed c.args.day.loads c.records_of.ensures.are _ c.place_inputs.ensures
