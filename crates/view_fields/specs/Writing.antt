-- What the writers of a view's fields put into a buffer.
use Rattle.std.specs.Prelude.{List, ◌++◌, ℕ, length, drop}
use Rattle.labels.specs.Tables.{principals, whole}
use Rattle.view_fields.specs.Fields.{little_endian, value_field}
use Rattle.view_fields.specs.declared.Triple.{Triple}

-- the whole buffer once v is written over its start: what lies behind v is untouched
unfoldable pub over : List ℕ → List ℕ → List ℕ
over v buffer = v ++ drop (length v) buffer

-- three 16-bit numbers
unfoldable pub numbers : ℕ → ℕ → ℕ → List ℕ
numbers a b c = little_endian 2 a ++ (little_endian 2 b ++ little_endian 2 c)

-- a value as the code holds it
abbrev pub triple_field : Triple → List ℕ
triple_field v = value_field principals v.kind (whole v.first) (whole v.second)
