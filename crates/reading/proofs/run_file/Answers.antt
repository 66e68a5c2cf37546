-- The parts of a file that loads lie one behind the other, and its run is that of its parts.
use native.Mathlib.Omega.{arith}
use Rattle.reading.proofs.Calls.{records_short, code_short, inputs_fit, places_fit, run_is}
use Rattle.reading.proofs.run_file.Goals as goal

pub place_inputs-requires : goal.place_inputs-requires
place_inputs-requires c = (omega (arith, records_short _ _ _ c.args.script.loads), c.requires)

pub invariant_of-program : goal.invariant_of-program
invariant_of-program c = record { short = code_short _ _ _ c.args.script.loads }

pub execute-requires : goal.execute-requires
execute-requires c = (inputs_fit _ _ _ c.args.script.loads, places_fit _ _ _ c.args.script.loads)

pub returns : goal.returns
returns c =
    rw (run_is _ _ _ c.args.script.loads _ _ _ c.label_at-label.ensures c.label_at-clearance.ensures c.place_inputs.ensures) at c.execute.ensures
