-- The statuses that a program ends with.
use Rattle.std.specs.Prelude.{ℕ, Result, cond, is_ok}

-- that of one whose printing gave r: 3 where standard output can't be written
abbrev pub status_of : {A E : Type 0} → Result A E → ℕ
status_of r = cond (is_ok r) 0 3
