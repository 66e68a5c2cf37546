-- What a request does: faults 23 to 28 in their order, and the effect; and the way of a fault to its handler.
use Rattle.std.specs.Prelude.{Bool, cond, List, [], ◌∷◌, ℕ, ◌+◌, ◌-◌, leb, ltb, length, set, drop, None, Some}
use Rattle.labels.specs.declared.Label.{Label}
use Rattle.model.specs.State.{Control, Store, Program, flows_in, Outcome, Runner, at, number, push, with_label, with_clearance, with_steps, with_next, Slot}
use Rattle.model.specs.declared.Account.{Account}
use Rattle.model.specs.Operands.{Request, none, ends, throws, raises, lowers, labels, opens, makes, writes, blocks}
use Rattle.model.specs.declared.Kind.{Kind}
use Rattle.model.specs.declared.Kind.TheVariants.{Sealed}
use Rattle.model.specs.declared.Datum.{Datum}
use Rattle.model.specs.declared.Datum.TheVariants.{Label as Labelled, Handle}
use Rattle.model.specs.declared.Value.{Value}
use Rattle.model.specs.declared.Contents.{Contents}
use Rattle.model.specs.declared.Contents.TheVariants.{Value as Holds, Fault}
use Rattle.model.specs.declared.Frame.{Frame}
use Rattle.model.specs.declared.Ending.{Ending}
use Rattle.model.specs.declared.Ending.TheVariants.{Result, Fault as Faulted, Spent}

pub data Next : Type 0 where
  go : Control → Account → Store → Next
  stop : Ending → Account → Store → Next

-- ── faults ──

-- a stack cut to a height; left if lower
abbrev pub cut : ℕ → List Value → List Value
cut h s = drop (length s - h) s

-- "The newest frame is then removed, the stack cut to its height at TRY, code and number pushed." T-03: "a caught fault gives
-- back the clearance that stood at TRY. The label stays as at the throw." "Without a frame the run ends with the fault."
unfoldable pub fail_to : List Frame → ℕ → ℕ → Control → Account → Store → Next
fail_to [] code n c a σ = stop (Faulted code n) a σ
fail_to (f ∷ fs) code n c a σ =
    go (record { pc = f.handler; stack = number n ∷ number code ∷ cut f.height c.stack; locals = c.locals; frames = fs })
    (with_clearance f.clearance a) σ

abbrev pub fail : ℕ → ℕ → Control → Account → Store → Next
fail code n c a σ = fail_to c.frames code n c a σ

-- what follows where a test holds, else a fault
abbrev pub check : Bool → ℕ → ℕ → Control → Account → Store → Next → Next
check t code n c a σ x = cond t x (fail code n c a σ)

-- T-02: "faults 23, 24 and 25 carry as their number 1 for secrecy, 2 for integrity, 3 for both": what l's flow test to m
-- answers
abbrev pub check_flow : Program → Label → Label → ℕ → Control → Account → Store → Next → Next
check_flow P l m code c a σ x = check (flows_in P l m) code (P.flow_test l m) c a σ x

-- the current label flows to l, and l to the clearance, with the code of each test's fault. "The first failing of its two
-- tests speaks", and that one alone.
abbrev pub check_between : Program → ℕ → ℕ → Label → Control → Account → Store → Next → Next
check_between P first second l c a σ x = check_flow P a.label l first c a σ (check_flow P l a.clearance second c a σ x)

-- 23 and 24 of SEAL, NEW, WRITE, BLOCK: the current label flows to the target, the target to the clearance
abbrev pub check_target : Program → Label → Control → Account → Store → Next → Next
check_target P l c a σ x = check_between P 23 24 l c a σ x

-- 24 of RAISE, OPEN, READ: the raised label flows to the clearance
abbrev pub check_raise : Program → Label → Control → Account → Store → Next → Next
check_raise P l c a σ x = check_flow P (P.join a.label l) a.clearance 24 c a σ x

abbrev pub raised : Program → Label → Account → Account
raised P l a = with_label (P.join a.label l) a

-- ── records. c is the script's part with the operands in place, r without them ──

abbrev pub holding : Kind → Label → Contents → Slot
holding h l x = Some (record { kind = h; label = l; contents = x })

-- the label is raised already: "OPEN of a sealed fault raises, then throws that fault", and "READ of a reference that holds
-- a fault raises, then throws it, as OPEN does"
unfoldable pub yield : Control → Control → Account → Store → Contents → Next
yield c r a σ (Holds d) = go (push d r) a σ
yield c r a σ (Fault code n) = fail code n c a σ

-- An empty place gives fault 33 here and below; no run of an accepted file or day has a handle to one.
unfoldable pub open_slot : Program → Control → Control → Account → Store → Slot → Next
open_slot P c r a σ None = fail 33 0 c a σ
open_slot P c r a σ (Some x) = check_raise P x.label c a σ (yield c r (raised P x.label a) σ x.contents)

unfoldable pub label_slot : Control → Control → Account → Store → Slot → Next
label_slot c r a σ None = fail 33 0 c a σ
label_slot c r a σ (Some x) = go (push (Labelled x.label) r) a σ

unfoldable pub write_slot : Program → Control → Control → Account → Store → ℕ → Datum → Slot → Next
write_slot P c r a σ p d None = fail 33 0 c a σ
write_slot P c r a σ p d (Some x) =
    check_target P x.label c a σ (go r a (set σ p (holding x.kind x.label (Holds d))))

-- ── blocks: in the field's terms toLabeled, the bound being the label of the outcome ──

-- "with the outer label and clearance, a copy of the locals, an empty stack, no frames, n steps and k places", which
-- are the places behind the outcome's
abbrev pub body_control : ℕ → Control → Control
body_control t c = record { pc = t; stack = []; locals = c.locals; frames = [] }

abbrev pub body_account : ℕ → ℕ → Account → Account
body_account n k a =
    record { label = a.label; clearance = a.clearance; steps = n; next = a.next + 1; limit = a.next + 1 + k; depth = a.depth + 1 }

unfoldable pub contents_of : Ending → Contents
contents_of (Result d) = Holds d
contents_of (Faulted code n) = Fault code n
contents_of Spent = Fault 32 0

-- "if the label at the end doesn't flow to the bound, fault 31 however it ended"; with number 0, since the half that failed
-- would tell what the body has read
unfoldable pub outcome : Program → Label → Outcome → Contents
outcome P b o = cond (flows_in P o.account.label b) (contents_of o.ending) (Fault 31 0)

-- The outer run has paid n steps and k + 1 places, used or not; the first of these places gets the sealed outcome. Label
-- and clearance are the outer run's own.
abbrev pub seal_outcome : Program → Control → Account → Label → ℕ → ℕ → Outcome → Next
seal_outcome P r a b n k o =
    go (push (Handle Sealed a.next) r) (with_next (a.next + 1 + k) (with_steps (a.steps - n) a))
    (set o.store a.next (holding Sealed b (outcome P b o)))

-- ── the ten requests. a has the instruction's own step paid ──

unfoldable pub act : Program → Runner → Control → Control → Account → Store → Request → Next
act P R c r a σ none = go r a σ
act P R c r a σ (ends d) = stop (Result d) a σ
act P R c r a σ (throws n) = fail 30 n c a σ
act P R c r a σ (raises l) = check_raise P l c a σ (go r (raised P l a) σ)
act P R c r a σ (lowers l) = check_between P 25 25 l c a σ (go r (with_clearance l a) σ)
act P R c r a σ (labels p) = label_slot c r a σ (at σ p)
act P R c r a σ (opens p) = open_slot P c r a σ (at σ p)
act P R c r a σ (makes h l d) =
    check_target P l c a σ
    (check (ltb a.next a.limit) 26 0 c a σ
    (go (push (Handle h a.next) r) (with_next (a.next + 1) a) (set σ a.next (holding h l (Holds d)))))
act P R c r a σ (writes p d) = write_slot P c r a σ p d (at σ p)
act P R c r a σ (blocks b t n k) =
    check_target P b c a σ
    (check (ltb a.depth 8) 28 0 c a σ
    (check (leb n a.steps) 27 0 c a σ
    (check (leb (a.next + 1 + k) a.limit) 26 0 c a σ
    (seal_outcome P r a b n k (R (body_control t r) (body_account n k a) σ)))))
