-- What the record at a place is asked for, and the record with another value.
use Rattle.std.specs.Prelude.{None, Some}
use Rattle.labels.specs.Order.{no_label}
use Rattle.labels.specs.declared.Label.{Label}
use Rattle.model.specs.State.{Slot}
use Rattle.model.specs.declared.Datum.{Datum}
use Rattle.model.specs.declared.Datum.TheVariants.{Number}
use Rattle.model.specs.declared.Contents.{Contents}
use Rattle.model.specs.declared.Contents.TheVariants.{Value, Fault}

-- the label of the record; ⟨False, False⟩ where there is none
abbrev pub record_label : Slot → Label
record_label None = no_label
record_label (Some r) = r.label

-- the value of contents; the number 0 for a fault
abbrev value_in : Contents → Datum
value_in (Value d) = d
value_in (Fault code number) = Number 0

-- the value of the record; the number 0 where there is none
abbrev pub record_value : Slot → Datum
record_value None = Number 0
record_value (Some r) = value_in r.contents

-- the record with another value in place of its contents; nothing where there is none
abbrev pub rewritten : Datum → Slot → Slot
rewritten d None = None
rewritten d (Some r) = Some (record { kind = r.kind; label = r.label; contents = Value d })
