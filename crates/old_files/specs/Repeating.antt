-- From labels over six principals to labels over eight. A table over six has 64 bits, the lowest of four words.
use Rattle.labels.specs.declared.Table.{Table}
use Rattle.labels.specs.declared.Label.{Label}

-- a table over six principals, repeated in four words
abbrev pub repeated_table : Table → Table
repeated_table t = record { word0 = t.word0; word1 = t.word0; word2 = t.word0; word3 = t.word0 }

abbrev pub repeated : Label → Label
repeated l = record { secrecy = repeated_table l.secrecy; integrity = repeated_table l.integrity }
