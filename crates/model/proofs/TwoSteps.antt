-- One instruction in two runs: from states that an observer can't tell apart to states that the observer can't.
use Rattle.std.specs.Prelude.{None, Some}
use mathlib.Core.Bool.{Bool, true, false, cond}
use mathlib.Core.List.{List, [], ◌∷◌}
use mathlib.Core.Path.{◌≡◌, refl, sym, ap, subst, subst₂}
use Prim.Native.Nat.{ℕ, ◌+◌, ◌-◌, ◌≤◌, ◌<◌}
use native.Mathlib.Omega.{arith}
use lib.Dec.{leb, ltb}
use borrow.Author.Tests.{ltb-true, leb-true}
use lib.ListN.{length, set}
use Rattle.labels.specs.declared.Label.{Label}
use Rattle.model.specs.State.{Control, Store, Program, flows_in, Outcome, Runner, at, number, push, jump, with_steps, with_next, shown, Slot}
use Rattle.model.specs.declared.Account.{Account}
use Rattle.model.specs.Operands.{Request, none, ends, throws, raises, lowers, labels, opens, makes, writes, blocks, Plan, faults, asks, plan}
use Rattle.model.specs.Effects.{Next, go, cut, fail_to, fail, check_flow, check_between, check_target, raised, holding, yield, open_slot, label_slot, write_slot, body_control, body_account, outcome, seal_outcome, act}
use Rattle.model.specs.Running.{perform, step}
use Rattle.model.specs.declared.Kind.{Kind}
use Rattle.model.specs.declared.Kind.TheVariants.{Sealed}
use Rattle.model.specs.declared.Datum.{Datum}
use Rattle.model.specs.declared.Datum.TheVariants.{Label as Labelled, Handle}
use Rattle.model.specs.declared.Contents.{Contents}
use Rattle.model.specs.declared.Contents.TheVariants.{Value as Holds, Fault}
use Rattle.model.specs.declared.Record.{Record}
use Rattle.model.specs.declared.Frame.{Frame}
use Rattle.model.proofs.Tests.{cond_two}
use Rattle.model.proofs.Effects.{account_of, store_of, yield_of}
use Rattle.model.proofs.Kept.{LowSet, shell, Fresh, Kept, up, RunnerKept}
use Rattle.model.proofs.Plans.{all_drop, Reach, reach_wider, points_wider, InRequest, InPlan, plan_in}
use Rattle.model.proofs.LowEquivalence.{Twin, Shared, SharedContents, SharedSlot, LowEquivalent, LowOutcomes, LowNext, goes, stops, parts, Grows, shared_grows, grows_set, place_twin, grows_kept, equivalent_set, shared_visible}
use Rattle.model.proofs.BlockOutcome.{outcome_visible}

-- ── slots that are alike but for their contents ──

same_record : (x y : Record) → Some x ≡ Some y → x ≡ y
same_record x y e = cc

same_kind : (x y : Record) → shell (Some x) ≡ shell (Some y) → x.kind ≡ y.kind
unfolding shell
same_kind x y e = ap (λ (z : Record). z.kind) (same_record _ _ e)

same_label : (x y : Record) → shell (Some x) ≡ shell (Some y) → x.label ≡ y.label
unfolding shell
same_label x y e = ap (λ (z : Record). z.label) (same_record _ _ e)

no_shell : (x : Record) → shell None ≡ shell (Some x) → ⊥
unfolding shell
no_shell x e = let z : ◌≡◌ {A = ℕ} 0 1 = cc in omega arith

-- ── one instruction ──

module _ (P : Program) (Low : Label → Bool) (D : LowSet P Low) where
  fail_two : (code n : ℕ) (c : Control) (a : Account) (σ τ : Store) → Reach (Twin σ τ) c → LowEquivalent P Low σ τ
      → LowNext P Low (fail code n c a σ) (fail code n c a τ)
  unfolding fail_to
  fail_two code n c a σ τ g s = frames c.frames
    where
      frames : (fs : List Frame) → LowNext P Low (fail_to fs code n c a σ) (fail_to fs code n c a τ)
      frames [] = stops tt s
      frames (f ∷ fs) =
          goes
          {c = record { pc = f.handler; stack = number n ∷ number code ∷ cut f.height c.stack; locals = c.locals; frames = fs }}
          (record { stack = (tt, (tt, all_drop (Twin σ τ) (length c.stack - f.height) c.stack g.stack)); locals = g.locals }) s

  -- of a runner: the theorem
  abbrev pub RunnerTwo : Runner → Type 0
  RunnerTwo R = (c : Control) (a : Account) (σ τ : Store) → Fresh a σ → Fresh a τ → Reach (Twin σ τ) c → LowEquivalent P Low σ τ
      → LowOutcomes P Low (R c a σ) (R c a τ)

  -- c is the script's part with the operands in place, r without them
  module _ (R : Runner) (ResultKind : RunnerKept P Low D R) (RT : RunnerTwo R) (c r : Control) (a : Account) (σ τ : Store)
      (fσ : Fresh a σ) (fτ : Fresh a τ) (gc : Reach (Twin σ τ) c) (gr : Reach (Twin σ τ) r) (s : LowEquivalent P Low σ τ) where
    fails : (code n : ℕ) → LowNext P Low (fail code n c a σ) (fail code n c a τ)
    fails code n = fail_two code n c a σ τ gc s

    -- both runs test equal labels, so a fault's number is the same in both
    flow_two : (l m : Label) (code : ℕ) (x y : Next) → LowNext P Low x y → LowNext P Low (check_flow P l m code c a σ x) (check_flow P l m code c a τ y)
    flow_two l m code x y h = cond_two (LowNext P Low) (flows_in P l m) (λ _. h) (λ _. fails code (P.flow_test l m))

    between_two : (first second : ℕ) (l : Label) (x y : Next) → LowNext P Low x y
        → LowNext P Low (check_between P first second l c a σ x) (check_between P first second l c a τ y)
    between_two first second l x y h = flow_two a.label l first _ _ (flow_two l a.clearance second x y h)

    pushed : (d : Datum) → Shared σ τ d → Reach (Twin σ τ) (push d r)
    pushed d o = record { stack = (o, gr.stack); locals = gr.locals }

    label_two : (x y : Slot) → shell x ≡ shell y → LowNext P Low (label_slot c r a σ x) (label_slot c r a τ y)
    unfolding label_slot
    label_two None None e = fails 33 0
    label_two None (Some y) e = absurd (no_shell y e)
    label_two (Some x) None e = absurd (no_shell x (sym e))
    label_two (Some x) (Some y) e =
        subst (λ (l : Label). LowNext P Low (go (push (Labelled x.label) r) a σ) (go (push (Labelled l) r) a τ)) (same_label x y e)
        (goes {c = push (Labelled x.label) r} (pushed (Labelled x.label) tt) s)

    -- contents that both see
    yield_two : (b : Account) (x : Contents) → SharedContents σ τ x → LowNext P Low (yield c r b σ x) (yield c r b τ x)
    unfolding yield
    yield_two b (Holds d) o = goes {c = push d r} (pushed d o) s
    yield_two b (Fault code n) o = fail_two code n c b σ τ gc s

    -- any contents, under a label that the observer doesn't see: here the runs part
    yield_apart : (b : Account) (x y : Contents) → Low b.label ≡ false → LowNext P Low (yield c r b σ x) (yield c r b τ y)
    yield_apart b x y e =
        parts (hidden σ x) (hidden τ y)
        (yield_of (λ _ ρ. LowEquivalent P Low ρ (store_of (yield c r b τ y))) (λ _ _ _ g. g) c r b σ x
        (yield_of (λ _ ρ. LowEquivalent P Low σ ρ) (λ _ _ _ g. g) c r b τ y s))
      where
        hidden : (ρ : Store) (z : Contents) → Low (account_of (yield c r b ρ z)).label ≡ false
        hidden ρ z = yield_of (λ d _. Low d.label ≡ false) (λ _ _ _ g. g) c r b ρ z e

    open_alike : (h j : Kind) (l : Label) (x y : Contents) → SharedSlot σ τ (shown Low (holding h l x))
        → shown Low (holding h l x) ≡ shown Low (holding j l y)
        → LowNext P Low (open_slot P c r a σ (holding h l x)) (open_slot P c r a τ (holding j l y))
    unfolding open_slot shown
    open_alike h j l x y o k =
        flow_two (P.join a.label l) a.clearance 24 _ _ (contents (Low l) refl)
      where
        same : holding h l x ≡ holding j l y → x ≡ y
        same e = ap (λ (z : Record). z.contents) (same_record _ _ e)

        contents : (t : Bool) → Low l ≡ t → LowNext P Low (yield c r (raised P l a) σ x) (yield c r (raised P l a) τ y)
        contents true e =
            subst (λ (z : Contents). LowNext P Low (yield c r (raised P l a) σ x) (yield c r (raised P l a) τ z))
            (same (subst (λ (t : Bool). cond t (holding h l x) None ≡ cond t (holding j l y) None) e k))
            (yield_two (raised P l a) x (subst (λ (t : Bool). SharedSlot σ τ (cond t (holding h l x) None)) e o))
        contents false e = yield_apart (raised P l a) x y (up P Low D l (P.join a.label l) (D.join_right a.label l) e)

    open_two : (x y : Slot) → shell x ≡ shell y → shown Low x ≡ shown Low y → SharedSlot σ τ (shown Low x)
        → LowNext P Low (open_slot P c r a σ x) (open_slot P c r a τ y)
    unfolding open_slot
    open_two None None e k o = fails 33 0
    open_two None (Some y) e k o = absurd (no_shell y e)
    open_two (Some x) None e k o = absurd (no_shell x (sym e))
    open_two (Some x) (Some y) e k o =
        subst (λ (l : Label). shown Low (Some x) ≡ shown Low (holding y.kind l y.contents)
        → LowNext P Low (open_slot P c r a σ (Some x)) (open_slot P c r a τ (holding y.kind l y.contents)))
        (same_label x y e) (open_alike x.kind y.kind x.label x.contents y.contents o) k

    write_alike : (p : ℕ) (d : Datum) (h : Kind) (l : Label) → Shared σ τ d
        → LowNext P Low (check_target P l c a σ (go r a (set σ p (holding h l (Holds d))))) (check_target P l c a τ (go r a (set τ p (holding h l (Holds d)))))
    write_alike p d h l o =
        between_two 23 24 l _ _ (goes (reach_wider (Twin σ τ) (Twin σ' τ') grow r gr)
        (equivalent_set P Low σ τ p h l (Holds d) (Holds d) s refl
        (shared_visible P Low σ' τ' h l (Holds d) (points_wider (Twin σ τ) (Twin σ' τ') grow d o))))
      where
        σ' : Store
        σ' = set σ p (holding h l (Holds d))

        τ' : Store
        τ' = set τ p (holding h l (Holds d))

        grow : Grows σ τ σ' τ'
        grow = grows_set σ τ p h l (Holds d) (Holds d) s.sized

    write_two : (p : ℕ) (d : Datum) (x y : Slot) → Shared σ τ d → shell x ≡ shell y
        → LowNext P Low (write_slot P c r a σ p d x) (write_slot P c r a τ p d y)
    unfolding write_slot
    write_two p d None None o e = fails 33 0
    write_two p d None (Some y) o e = absurd (no_shell y e)
    write_two p d (Some x) None o e = absurd (no_shell x (sym e))
    write_two p d (Some x) (Some y) o e =
        subst₂ (λ (h : Kind) (l : Label). LowNext P Low (check_target P x.label c a σ (go r a (set σ p (holding x.kind x.label (Holds d)))))
        (check_target P l c a τ (go r a (set τ p (holding h l (Holds d))))))
        (same_kind x y e) (same_label x y e) (write_alike p d x.kind x.label o)

    -- the next place is filled with records that the observer can't tell apart
    put_two : (σ' τ' : Store) → Grows σ τ σ' τ' → LowEquivalent P Low σ' τ' → a.next < length σ' → a.next < length τ'
        → (h : Kind) (l : Label) (x y : Contents) → shown Low (holding h l x) ≡ shown Low (holding h l y)
        → SharedSlot σ' τ' (shown Low (holding h l x)) → (b : Account)
        → LowNext P Low (go (push (Handle h a.next) r) b (set σ' a.next (holding h l x)))
        (go (push (Handle h a.next) r) b (set τ' a.next (holding h l y)))
    put_two σ' τ' g₁ s' i j h l x y e o b =
        goes {c = push (Handle h a.next) r}
        (record { stack = (place_twin σ' τ' a.next h l x y i j, all.stack); locals = all.locals })
        (equivalent_set P Low σ' τ' a.next h l x y s' e (shared_grows σ' τ' σ'' τ'' g₂ (shown Low (holding h l x)) o))
      where
        σ'' : Store
        σ'' = set σ' a.next (holding h l x)

        τ'' : Store
        τ'' = set τ' a.next (holding h l y)

        g₂ : Grows σ' τ' σ'' τ''
        g₂ = grows_set σ' τ' a.next h l x y s'.sized

        all : Reach (Twin σ'' τ'') r
        all = reach_wider (Twin σ τ) (Twin σ'' τ'') (λ p t. g₂ p (g₁ p t)) r gr

    make_two : (h : Kind) (l : Label) (d : Datum) → Shared σ τ d → a.next < a.limit
        → LowNext P Low (go (push (Handle h a.next) r) (with_next (a.next + 1) a) (set σ a.next (holding h l (Holds d))))
        (go (push (Handle h a.next) r) (with_next (a.next + 1) a) (set τ a.next (holding h l (Holds d))))
    make_two h l d o lt =
        put_two σ τ (λ p t. t) s (fσ a.next (omega arith)).0 (fτ a.next (omega arith)).0 h l (Holds d) (Holds d) refl
        (shared_visible P Low σ τ h l (Holds d) o) (with_next (a.next + 1) a)

    block_two : (b : Label) (t n k : ℕ) → a.next + 1 + k ≤ a.limit
        → LowNext P Low (seal_outcome P r a b n k (R (body_control t r) (body_account n k a) σ))
        (seal_outcome P r a b n k (R (body_control t r) (body_account n k a) τ))
    block_two b t n k le =
        put_two o.store q.store
        (grows_kept P Low (body_account n k a) (body_account n k a) o.account q.account σ τ o.store q.store bσ bτ ko kq)
        two.stores (rw (← ko.sized) (fσ a.next (omega arith)).0) (rw (← kq.sized) (fτ a.next (omega arith)).0)
        Sealed b (outcome P b o) (outcome P b q) seen.0 seen.1 (with_next (a.next + 1 + k) (with_steps (a.steps - n) a))
      where
        o : Outcome
        o = R (body_control t r) (body_account n k a) σ

        q : Outcome
        q = R (body_control t r) (body_account n k a) τ

        bσ : Fresh (body_account n k a) σ
        bσ p i = fσ p (omega arith)

        bτ : Fresh (body_account n k a) τ
        bτ p i = fτ p (omega arith)

        ko : Kept Low (body_account n k a) σ o.account o.store
        ko = ResultKind (body_control t r) (body_account n k a) σ bσ

        kq : Kept Low (body_account n k a) τ q.account q.store
        kq = ResultKind (body_control t r) (body_account n k a) τ bτ

        two : LowOutcomes P Low o q
        two = RT (body_control t r) (body_account n k a) σ τ bσ bτ (record { stack = tt; locals = gr.locals }) s

        seen : (shown Low (holding Sealed b (outcome P b o)) ≡ shown Low (holding Sealed b (outcome P b q)))
            × SharedSlot o.store q.store (shown Low (holding Sealed b (outcome P b o)))
        seen = outcome_visible P Low D b o.store q.store o.ending q.ending o.account q.account two.ends

    act_two : (q : Request) → InRequest (Twin σ τ) q → LowNext P Low (act P R c r a σ q) (act P R c r a τ q)
    unfolding act
    act_two none i = goes gr s
    act_two (ends d) i = stops i s
    act_two (throws n) i = fails 30 n
    act_two (raises l) i =
        flow_two (P.join a.label l) a.clearance 24 _ _ (goes gr s)
    act_two (lowers l) i =
        between_two 25 25 l _ _ (goes gr s)
    act_two (labels p) i = label_two (at σ p) (at τ p) i.1
    act_two (opens p) i = open_two (at σ p) (at τ p) i.1 (s.alike p) (s.shared p)
    act_two (makes h l d) i =
        between_two 23 24 l _ _
        (cond_two (LowNext P Low) (ltb a.next a.limit) (λ e. make_two h l d i (ltb-true a.next a.limit e)) (λ _. fails 26 0))
    act_two (writes p d) i = write_two p d (at σ p) (at τ p) i.1 i.0.1
    act_two (blocks b t n k) i =
        between_two 23 24 b _ _
        (cond_two (LowNext P Low) (ltb a.depth 8)
        (λ _. cond_two (LowNext P Low) (leb n a.steps)
        (λ _. cond_two (LowNext P Low) (leb (a.next + 1 + k) a.limit)
        (λ e. block_two b t n k (leb-true (a.next + 1 + k) a.limit e))
        (λ _. fails 26 0))
        (λ _. fails 27 0))
        (λ _. fails 28 0))

  perform_two : (R : Runner) → RunnerKept P Low D R → RunnerTwo R → (c : Control) (a : Account) (σ τ : Store) → Fresh a σ → Fresh a τ
      → Reach (Twin σ τ) c → LowEquivalent P Low σ τ → (q : Plan) → InPlan (Twin σ τ) q
      → LowNext P Low (perform P R c a σ q) (perform P R c a τ q)
  unfolding perform
  perform_two R ResultKind RT c a σ τ fσ fτ g s (faults code) i = fail_two code 0 c a σ τ g s
  perform_two R ResultKind RT c a σ τ fσ fτ g s (asks r q) i = act_two R ResultKind RT c r a σ τ fσ fτ g i.0 s q i.1

  pub step_two : (R : Runner) → RunnerKept P Low D R → RunnerTwo R → (c : Control) (a : Account) (σ τ : Store) → Fresh a σ → Fresh a τ
      → Reach (Twin σ τ) c → LowEquivalent P Low σ τ → LowNext P Low (step P R c a σ) (step P R c a τ)
  unfolding step
  step_two R ResultKind RT c a σ τ fσ fτ g s =
      perform_two R ResultKind RT behind a σ τ fσ fτ reach s (plan P a behind (P.fetch c.pc))
      (plan_in (Twin σ τ) P a s.inputs behind reach (P.fetch c.pc))
    where
      behind : Control
      behind = jump (P.after c.pc) c

      reach : Reach (Twin σ τ) behind
      reach = record { stack = g.stack; locals = g.locals }
