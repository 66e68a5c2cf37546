-- The bytes written so far, and those of what is left of the number, cut by masks and shifts as the code cuts them, are all of
-- them.
use Rattle.std.proofs.Common.{◌≡◌, ◌++◌, ◌-◌, take}
use Rattle.view_fields.specs.Fields.{little_endian}
use Rattle.view_fields.proofs.Digits.{masked}
use Rattle.view_fields.proofs.write_number.Given as goal

abbrev pub invariant-loop-b : goal.invariant-loop-b
invariant-loop-b l = take l.b-index l.b-items ++ masked 8 (l.width - l.b-index) l.rest ≡ little_endian l.width l.n
