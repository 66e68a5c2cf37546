-- What a request does, under mapped labels: the same checks, the same effect. Proved once for each request.
use Rattle.std.specs.Prelude.{None, Some}
use Rattle.std.proofs.lemmas.List.{map-set, drop-map}
use mathlib.Core.Bool.{Bool}
use mathlib.Core.List.{List, [], ◌∷◌, map}
use mathlib.Core.Path.{◌≡◌, refl}
use Prim.Native.Nat.{ℕ, ◌+◌, ◌-◌}
use lib.Dec.{leb, ltb}
use lib.ListN.{length, set, length-map, get_or-map}
use Rattle.labels.specs.declared.Label.{Label}
use Rattle.model.specs.State.{Control, Store, Program, flows_in, Outcome, Runner, at, push, with_steps, with_next, Slot}
use Rattle.model.specs.declared.Account.{Account}
use Rattle.model.specs.Operands.{Request, none, ends, throws, raises, lowers, labels, opens, makes, writes, blocks}
use Rattle.model.specs.Effects.{Next, go, stop, cut, fail_to, fail, check, check_flow, check_between, check_raise, raised, holding, yield, open_slot, label_slot, write_slot, body_control, body_account, contents_of, outcome, seal_outcome, act}
use Rattle.model.specs.declared.Kind.TheVariants.{Sealed}
use Rattle.model.specs.declared.Datum.{Datum}
use Rattle.model.specs.declared.Datum.TheVariants.{Handle}
use Rattle.model.specs.declared.Value.{Value}
use Rattle.model.specs.declared.Contents.{Contents}
use Rattle.model.specs.declared.Contents.TheVariants.{Value as Holds, Fault}
use Rattle.model.specs.declared.Frame.{Frame}
use Rattle.model.specs.declared.Ending.{Ending}
use Rattle.model.specs.declared.Ending.TheVariants.{Result, Fault as Faulted, Spent}
use Rattle.relabelling.specs.Relabelled.{datum_under, value_under, contents_under, slot_under, store_under, frame_under, control_under, account_under, ending_under, outcome_under}
use Rattle.relabelling.specs.Keeps.{Keeps}
use Rattle.relabelling.proofs.Lists.{cond_under}
use Rattle.relabelling.proofs.Plans.{request_under, flows_under, half_under, join_under}

module _ (h : Label → Label) where
  abbrev pub next_under : Next → Next
  next_under (go c a σ) = go (control_under h c) (account_under h a) (store_under h σ)
  next_under (stop e a σ) = stop (ending_under h e) (account_under h a) (store_under h σ)

  -- runner S under mapped labels is runner R
  abbrev pub RunsUnder : Runner → Runner → Type 0
  RunsUnder R S = (c : Control) (a : Account) (σ : Store) → S (control_under h c) (account_under h a) (store_under h σ) ≡ outcome_under h (R c a σ)

  -- ── faults, stack and store ──

  cut_under : (n : ℕ) (s : List Value) → cut n (map (value_under h) s) ≡ map (value_under h) (cut n s)
  cut_under n s = rw (length-map s (value_under h)) (drop-map (value_under h) (length s - n) s)

  at_under : (σ : Store) (p : ℕ) → at (store_under h σ) p ≡ slot_under h (at σ p)
  at_under σ p = get_or-map (slot_under h) σ p None

  -- the run goes on with a place set
  set_under : (c : Control) (a : Account) (σ : Store) (p : ℕ) (x : Slot)
      → go (control_under h c) (account_under h a) (set (store_under h σ) p (slot_under h x)) ≡ next_under (go c a (set σ p x))
  set_under c a σ p x = rw (map-set (slot_under h) σ p x)

  contents_of_under : (e : Ending) → contents_of (ending_under h e) ≡ contents_under h (contents_of e)
  unfolding contents_of
  contents_of_under (Result d) = refl
  contents_of_under (Faulted code n) = refl
  contents_of_under Spent = refl

  module _ (c : Control) (a : Account) (σ : Store) where
    fail_to_under : (fs : List Frame) (code n : ℕ)
        → fail_to (map (frame_under h) fs) code n (control_under h c) (account_under h a) (store_under h σ) ≡ next_under (fail_to fs code n c a σ)
    unfolding fail_to
    fail_to_under [] code n = refl
    fail_to_under (f ∷ fs) code n = rw (cut_under f.height c.stack)

    pub fail_under : (code n : ℕ) → fail code n (control_under h c) (account_under h a) (store_under h σ) ≡ next_under (fail code n c a σ)
    fail_under code n = fail_to_under c.frames code n

    check_under : (t : Bool) (code n : ℕ) (x y : Next) → x ≡ next_under y
        → check t code n (control_under h c) (account_under h a) (store_under h σ) x ≡ next_under (check t code n c a σ y)
    check_under t code n x y e = cond_under next_under t e (fail_under code n)

    -- whatever a record holds
    yield_under : (r : Control) (x : Contents)
        → yield (control_under h c) (control_under h r) (account_under h a) (store_under h σ) (contents_under h x) ≡ next_under (yield c r a σ x)
    unfolding yield
    yield_under r (Holds d) = refl
    yield_under r (Fault code n) = fail_under code n

    label_slot_under : (r : Control) (x : Slot)
        → label_slot (control_under h c) (control_under h r) (account_under h a) (store_under h σ) (slot_under h x) ≡ next_under (label_slot c r a σ x)
    unfolding label_slot
    label_slot_under r None = fail_under 33 0
    label_slot_under r (Some x) = refl

  -- ── the checks of labels, and the requests ──

  module _ (P Q : Program) (K : Keeps h P Q) where
    raised_under : (l : Label) (a : Account) → raised Q (h l) (account_under h a) ≡ account_under h (raised P l a)
    raised_under l a = rw (join_under h P Q K a.label l)

    outcome-under : (b : Label) (o : Outcome) → outcome Q (h b) (outcome_under h o) ≡ contents_under h (outcome P b o)
    unfolding outcome
    outcome-under b o =
        rw (flows_under h P Q K o.account.label b)
        (cond_under (contents_under h) (flows_in P o.account.label b) (contents_of_under o.ending) refl)

    module _ (c : Control) (a : Account) (σ : Store) where
      flow_under : (l m : Label) (code : ℕ) (x y : Next) → x ≡ next_under y
          → check_flow Q (h l) (h m) code (control_under h c) (account_under h a) (store_under h σ) x ≡ next_under (check_flow P l m code c a σ y)
      flow_under l m code x y e = rw (half_under h P Q K l m) (check_under c a σ (flows_in P l m) code (P.flow_test l m) x y e)

      between_under : (first second : ℕ) (l : Label) (x y : Next) → x ≡ next_under y
          → check_between Q first second (h l) (control_under h c) (account_under h a) (store_under h σ) x
          ≡ next_under (check_between P first second l c a σ y)
      between_under first second l x y e = flow_under a.label l first _ _ (flow_under l a.clearance second x y e)

      raise_under : (l : Label) (x y : Next) → x ≡ next_under y
          → check_raise Q (h l) (control_under h c) (account_under h a) (store_under h σ) x ≡ next_under (check_raise P l c a σ y)
      raise_under l x y e = rw (join_under h P Q K a.label l) (flow_under (P.join a.label l) a.clearance 24 x y e)

      open_under : (r : Control) (x : Slot)
          → open_slot Q (control_under h c) (control_under h r) (account_under h a) (store_under h σ) (slot_under h x) ≡ next_under (open_slot P c r a σ x)
      unfolding open_slot
      open_under r None = fail_under c a σ 33 0
      open_under r (Some x) =
          raise_under x.label _ _ (rw (raised_under x.label a) (yield_under c (raised P x.label a) σ r x.contents))

      write_under : (r : Control) (p : ℕ) (d : Datum) (x : Slot)
          → write_slot Q (control_under h c) (control_under h r) (account_under h a) (store_under h σ) p (datum_under h d) (slot_under h x)
          ≡ next_under (write_slot P c r a σ p d x)
      unfolding write_slot
      write_under r p d None = fail_under c a σ 33 0
      write_under r p d (Some x) = between_under 23 24 x.label _ _ (set_under r a σ p (holding x.kind x.label (Holds d)))

      seal_under : (r : Control) (b : Label) (n k : ℕ) (o : Outcome)
          → seal_outcome Q (control_under h r) (account_under h a) (h b) n k (outcome_under h o) ≡ next_under (seal_outcome P r a b n k o)
      seal_under r b n k o =
          rw (outcome-under b o)
          (set_under (push (Handle Sealed a.next) r) (with_next (a.next + 1 + k) (with_steps (a.steps - n) a)) o.store a.next
          (holding Sealed b (outcome P b o)))

      pub act_under : (R S : Runner) → RunsUnder R S → (r : Control) (q : Request)
          → act Q S (control_under h c) (control_under h r) (account_under h a) (store_under h σ) (request_under h q) ≡ next_under (act P R c r a σ q)
      unfolding act
      act_under R S e r none = refl
      act_under R S e r (ends d) = refl
      act_under R S e r (throws n) = fail_under c a σ 30 n
      act_under R S e r (raises l) = raise_under l _ _ (rw (raised_under l a))
      act_under R S e r (lowers l) = between_under 25 25 l _ _ refl
      act_under R S e r (labels p) = rw (at_under σ p) (label_slot_under c a σ r (at σ p))
      act_under R S e r (opens p) = rw (at_under σ p) (open_under r (at σ p))
      act_under R S e r (makes k l d) =
          between_under 23 24 l _ _ (check_under c a σ (ltb a.next a.limit) 26 0 _ _
          (set_under (push (Handle k a.next) r) (with_next (a.next + 1) a) σ a.next (holding k l (Holds d))))
      act_under R S e r (writes p d) = rw (at_under σ p) (write_under r p d (at σ p))
      act_under R S e r (blocks b t n k) =
          between_under 23 24 b _ _ (check_under c a σ (ltb a.depth 8) 28 0 _ _
          (check_under c a σ (leb n a.steps) 27 0 _ _
          (check_under c a σ (leb (a.next + 1 + k) a.limit) 26 0 _ _
          (rw (e (body_control t r) (body_account n k a) σ) (seal_under r b n k (R (body_control t r) (body_account n k a) σ))))))
