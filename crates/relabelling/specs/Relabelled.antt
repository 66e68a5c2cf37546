-- What a map h of labels makes of each part of a run: every label l in it becomes h l, and nothing else changes.
use Rattle.std.specs.Prelude.{map, option_map}
use Rattle.labels.specs.declared.Label.{Label}
use Rattle.model.specs.State.{Control, Store, Outcome, value, Slot}
use Rattle.model.specs.Inputs.{Input}
use Rattle.model.specs.declared.Datum.{Datum}
use Rattle.model.specs.declared.Datum.TheVariants.{Number, Label as Labelled, Handle}
use Rattle.model.specs.declared.Value.{Value}
use Rattle.model.specs.declared.Contents.{Contents}
use Rattle.model.specs.declared.Contents.TheVariants.{Value as Holds, Fault}
use Rattle.model.specs.declared.Record.{Record}
use Rattle.model.specs.declared.Frame.{Frame}
use Rattle.model.specs.declared.Account.{Account}
use Rattle.model.specs.declared.Ending.{Ending}
use Rattle.model.specs.declared.Ending.TheVariants.{Result, Fault as Faulted, Spent}

module _ (h : Label → Label) where
  -- a label as a value
  abbrev pub datum_under : Datum → Datum
  datum_under (Number n) = Number n
  datum_under (Labelled l) = Labelled (h l)
  datum_under (Handle k p) = Handle k p

  -- a value of the stack or the locals
  abbrev pub value_under : Value → Value
  value_under v = value (datum_under v.datum)

  -- a fault's code and number hold no label
  abbrev pub contents_under : Contents → Contents
  contents_under (Holds d) = Holds (datum_under d)
  contents_under (Fault code n) = Fault code n

  -- its own label, and a label that it holds
  abbrev pub record_under : Record → Record
  record_under x = record { kind = x.kind; label = h x.label; contents = contents_under x.contents }

  -- an empty place stays empty
  abbrev pub slot_under : Slot → Slot
  slot_under = option_map record_under

  -- each record in its place
  abbrev pub store_under : Store → Store
  store_under σ = map slot_under σ

  -- the clearance that it gives back
  abbrev pub frame_under : Frame → Frame
  frame_under f = record { handler = f.handler; height = f.height; clearance = h f.clearance }

  -- the values and the frames; the code and the place in it are the same
  abbrev pub control_under : Control → Control
  control_under c =
      record { pc = c.pc; stack = map value_under c.stack; locals = map value_under c.locals; frames = map frame_under c.frames }

  -- label and clearance; the counts are the same
  abbrev pub account_under : Account → Account
  account_under a =
      record { label = h a.label; clearance = h a.clearance; steps = a.steps; next = a.next; limit = a.limit; depth = a.depth }

  -- a label as the result
  abbrev pub ending_under : Ending → Ending
  ending_under (Result d) = Result (datum_under d)
  ending_under (Faulted code n) = Faulted code n
  ending_under Spent = Spent

  -- the ending, the account and every record
  abbrev pub outcome_under : Outcome → Outcome
  outcome_under o = record { ending = ending_under o.ending; account = account_under o.account; store = store_under o.store }

  -- an input record of a file
  abbrev pub input_under : Input → Input
  input_under x = record { kind = x.kind; label = h x.label; number = x.number }
