-- A value read from an array, within its end or past it.
use Rattle.std.specs.Prelude.{cond, ℕ, ltb}
use Rattle.model.specs.declared.Datum.{Datum}
use Rattle.model.specs.declared.Datum.TheVariants.{Number}
use Rattle.model.specs.declared.Value.{Value}

-- the value for place i of n: past the end stands the number 0
abbrev pub present_of : ℕ → ℕ → Value → Datum
present_of i n v = cond (ltb i n) v.datum (Number 0)
