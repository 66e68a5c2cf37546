-- The end of a job: "Once a job's view is fixed, new ones vanish and contents that are a handle to any place from C on,
-- whether a record still stands there or not, become fault 33, number 0." C is the number of input records.
use Rattle.std.specs.Prelude.{cond, [], ◌∷◌, ℕ, suc, leb, ltb, None, Some}
use Rattle.model.specs.State.{Store, Slot}
use Rattle.model.specs.declared.Datum.{Datum}
use Rattle.model.specs.declared.Datum.TheVariants.{Number, Label as Labelled, Handle}
use Rattle.model.specs.declared.Contents.{Contents}
use Rattle.model.specs.declared.Contents.TheVariants.{Value as Holds, Fault}

-- what becomes of a value that a record holds: a handle, of either kind, to a place from c on is a fault
unfoldable pub kept_datum : ℕ → Datum → Contents
kept_datum c (Number n) = Holds (Number n)
kept_datum c (Labelled l) = Holds (Labelled l)
kept_datum c (Handle k p) = cond (leb c p) (Fault 33 0) (Holds (Handle k p))

unfoldable pub kept_contents : ℕ → Contents → Contents
kept_contents c (Holds d) = kept_datum c d
kept_contents c (Fault code n) = Fault code n

-- an input record keeps its kind and its label, whoever may see it
unfoldable pub kept_slot : ℕ → Slot → Slot
kept_slot c None = None
kept_slot c (Some r) = Some (record { kind = r.kind; label = r.label; contents = kept_contents c r.contents })

-- the slot at place p
unfoldable pub end_slot : ℕ → ℕ → Slot → Slot
end_slot c p x = cond (ltb p c) (kept_slot c x) None

-- the slots of a store, the first being at place p
unfoldable pub end_from : ℕ → ℕ → Store → Store
end_from c p [] = []
end_from c p (x ∷ σ) = end_slot c p x ∷ end_from c (suc p) σ

abbrev pub end_job : ℕ → Store → Store
end_job c σ = end_from c 0 σ
