-- What the code makes of labels and records: a decision, and where a label lies. These follow the code; `decision_performs`
-- (proofs/Bridge) ties them to the machine's definition.
use Rattle.std.specs.Prelude.{Bool, true, false, cond, List, ℕ, ◌+◌, leb, ltb, eqb, Option, None, Some}
use Rattle.labels.specs.declared.Label.{Label}
use Rattle.labels.specs.Order.{flow_test, flows, join, meet}
use Rattle.model.specs.State.{Slot, Store, at}
use Rattle.model.specs.declared.Account.{Account}
use Rattle.model.specs.Effects.{contents_of}
use Rattle.model.specs.FileLabels.{label_in}
use Rattle.model.specs.declared.Kind.{Kind}
use Rattle.model.specs.declared.Kind.TheVariants.{Sealed, Reference}
use Rattle.model.specs.declared.Datum.{Datum}
use Rattle.model.specs.declared.Datum.TheVariants.{Number, Label as Labelled, Handle}
use Rattle.model.specs.declared.Contents.{Contents}
use Rattle.model.specs.declared.Contents.TheVariants.{Value as Holds, Fault as Faulty}
use Rattle.model.specs.declared.Ending.{Ending}
use Rattle.store.specs.Records.{record_label}
use Rattle.operands.specs.declared.Origin.{Origin}
use Rattle.operands.specs.declared.Origin.TheVariants.{File, Current, Clearance, Record as OfRecord}
use Rattle.operands.specs.declared.Both.{Both}
use Rattle.operands.specs.declared.Both.TheVariants.{Join as JoinOf, Meet as MeetOf}
use Rattle.operands.specs.declared.Effect.TheVariants.{Fault, Label as GivesLabel, Raise, Lower, Make, Write, Open, Block}
use Rattle.operands.specs.declared.Decision.{Decision}
use Rattle.operands.specs.declared.OnLabel.{OnLabel}
use Rattle.operands.specs.declared.OnLabel.TheVariants.{Raise as Raises, Lower as Lowers, Make as Makes, Block as Blocks}
use Rattle.operands.specs.declared.OnHandle.{OnHandle}
use Rattle.operands.specs.declared.OnHandle.TheVariants.{Open as Opens, Label as LabelOf, Write as Writes}
use Rattle.operands.specs.declared.LabelTask.{LabelTask}
use Rattle.operands.specs.declared.LabelTask.TheVariants.{Pair as OnPair, Label as ForLabel, Handle as ForHandle}
use Rattle.operands.specs.declared.Task.{Task}
use Rattle.operands.specs.declared.Task.TheVariants.{Do, Numbers, Labels}
use Rattle.operands.specs.Tasks.{decided, thrown, faulty, on_numbers, labels_of}

-- ── the checks ──

-- what follows where a flow test answers 0; else a fault, with the answer as its number
abbrev pub flowing : ℕ → ℕ → Decision → Decision
flowing code answer d = cond (eqb answer 0) d (thrown code answer)

-- 23 and 24: the fault of the first failing of the two tests, if one fails
unfoldable pub target_of : Label → Label → Label → Option Decision
target_of label clearance l =
    cond (flows label l)
    (cond (flows l clearance) None (Some (thrown 24 (flow_test l clearance))))
    (Some (thrown 23 (flow_test label l)))

-- a fault, or else what follows
abbrev pub fault_or : Option Decision → Decision → Decision
fault_or None d = d
fault_or (Some fault) d = fault

-- what follows where 23 and 24 don't apply
abbrev pub passing : Label → Label → Label → Decision → Decision
passing label clearance l d = fault_or (target_of label clearance l) d

abbrev pub rises_of : Label → Label → Label → Bool
rises_of label clearance l = flows (join label l) clearance

-- 24 of RAISE, OPEN and READ: the raised label doesn't flow to the clearance
abbrev pub too_high : Label → Label → Label → Decision
too_high label clearance l = thrown 24 (flow_test (join label l) clearance)

-- ── on a label ──

abbrev pub raise_of : Label → Label → Label → Decision
raise_of label clearance l = cond (rises_of label clearance l) (decided 1 Raise) (too_high label clearance l)

abbrev pub lower_of : Label → Label → Label → Decision
lower_of label clearance l = flowing 25 (flow_test label l) (flowing 25 (flow_test l clearance) (decided 1 Lower))

abbrev pub make_of : Account → Kind → Label → Decision
make_of a h l = passing a.label a.clearance l (cond (ltb a.next a.limit) (decided 2 (Make h)) (faulty 26))

-- BLOCK's checks on its n and k: the fault of the first that fails, if one does
unfoldable pub room_of : Account → ℕ → ℕ → Option Decision
room_of a n k =
    cond (ltb a.depth 8)
    (cond (leb n a.steps) (cond (leb (a.next + 1 + k) a.limit) None (Some (faulty 26))) (Some (faulty 27)))
    (Some (faulty 28))

abbrev pub enter_of : Account → Label → ℕ → ℕ → ℕ → Decision
enter_of a b t n k = passing a.label a.clearance b (fault_or (room_of a n k) (decided 1 (Block t n k)))

abbrev pub with_label_of : OnLabel → Label → Account → Decision
with_label_of Raises l a = raise_of a.label a.clearance l
with_label_of Lowers l a = lower_of a.label a.clearance l
with_label_of (Makes h) l a = make_of a h l
with_label_of (Blocks t n k) l a = enter_of a l t n k

abbrev pub on_label : OnLabel → Datum → Account → Decision
on_label f (Number n) a = faulty 22
on_label f (Labelled l) a = with_label_of f l a
on_label f (Handle h p) a = faulty 22

-- ── on a handle, p its place ──

abbrev pub is_kind : Kind → Kind → Bool
is_kind Sealed Sealed = true
is_kind Sealed Reference = false
is_kind Reference Sealed = false
is_kind Reference Reference = true

abbrev pub yield_of : ℕ → Contents → Decision
yield_of p (Holds d) = decided 1 (Open p)
yield_of p (Faulty code n) = decided 0 (Fault (Some p) code n)

abbrev pub open_of : Label → Label → ℕ → Slot → Decision
open_of label clearance p None = faulty 33
open_of label clearance p (Some r) =
    cond (rises_of label clearance r.label) (yield_of p r.contents) (too_high label clearance r.label)

abbrev pub labelled_of : ℕ → Slot → Decision
labelled_of p None = faulty 33
labelled_of p (Some r) = decided 1 (GivesLabel (OfRecord p))

abbrev pub write_of : Label → Label → ℕ → Slot → Decision
write_of label clearance p None = faulty 33
write_of label clearance p (Some r) = passing label clearance r.label (decided 2 (Write p))

abbrev pub with_handle : OnHandle → Kind → ℕ → Account → Store → Decision
with_handle (Opens k) h p a σ = cond (is_kind k h) (open_of a.label a.clearance p (at σ p)) (faulty 22)
with_handle LabelOf h p a σ = labelled_of p (at σ p)
with_handle Writes h p a σ = cond (is_kind Reference h) (write_of a.label a.clearance p (at σ p)) (faulty 22)

abbrev pub on_handle : OnHandle → Datum → Account → Store → Decision
on_handle f (Number n) a σ = faulty 22
on_handle f (Labelled l) a σ = faulty 22
on_handle f (Handle h p) a σ = with_handle f h p a σ

-- y and x being the top operand and the one below
abbrev pub on_labels : LabelTask → Datum → Datum → Account → Store → Decision
on_labels (OnPair f) y x a σ = labels_of f y x
on_labels (ForLabel f) y x a σ = on_label f y a
on_labels (ForHandle f) y x a σ = on_handle f y a σ

-- what an instruction comes to, once its task is known
abbrev pub decision_of : Task → Datum → Datum → Account → Store → Decision
decision_of (Do d) y x a σ = d
decision_of (Numbers t) y x a σ = on_numbers t y x
decision_of (Labels t) y x a σ = on_labels t y x a σ

-- ── where a label lies ──

-- ls being the file's labels
abbrev pub label_from : Origin → Label → Label → List Label → Store → Label
label_from (File i) label clearance ls σ = label_in ls i
label_from Current label clearance ls σ = label
label_from Clearance label clearance ls σ = clearance
label_from (OfRecord p) label clearance ls σ = record_label (at σ p)

-- m being the label on top and l the one below
abbrev pub paired_of : Both → Label → Label → Label
paired_of JoinOf m l = join l m
paired_of MeetOf m l = meet l m

-- the label that a fault leaves, raised by the label of the record at a place, if there is one
abbrev pub raised_by : Label → Option ℕ → Store → Label
raised_by label None σ = label
raised_by label (Some p) σ = join label (record_label (at σ p))

-- ── a block's outcome ──

abbrev pub sealed_of : Label → Ending → Label → Contents
sealed_of label e b = cond (flows label b) (contents_of e) (Faulty 31 0)
