-- The outcome that the writers of a view write of, and the buffer that they leave.
use Rattle.std.specs.Prelude.{Bool, cond, List, ℕ, leb, length}
use Rattle.labels.specs.Order.{flows}
use Rattle.labels.specs.declared.Label.{Label}
use Rattle.model.specs.State.{Store, Outcome}
use Rattle.model.specs.declared.Account.{Account}
use Rattle.model.specs.declared.Finished.{Finished}
use Rattle.view_fields.specs.Writing.{over}
use Rattle.view.specs.Layout.{view}
use Rattle.view.specs.declared.Run.{Run}

-- the labels that the reader, itself a label, may observe
abbrev pub observes : Label → Label → Bool
observes reader l = flows l reader

-- a view does not tell how many places a run might have filled, nor how deep it was nested: both are 0 here
abbrev pub closing : Finished → Account
closing f = record { label = f.label; clearance = f.clearance; steps = f.steps; next = f.next; limit = 0; depth = 0 }

abbrev pub finished : Finished → Store → Outcome
finished f σ = record { ending = f.ending; account = closing f; store = σ }

-- what a run that has ended leaves, and the view of it
abbrev pub outcome : Run → Outcome
outcome r = finished r.finish r.store.now

abbrev pub run_view : Label → Run → List ℕ
run_view reader r = view (observes reader) r.steps (outcome r)

-- the buffer once v is written over its start, if it fits; else as it was
unfoldable pub shown_in : List ℕ → List ℕ → List ℕ
shown_in v b = cond (leb (length v) (length b)) (over v b) b
