-- Each effect, applied to the state in place, does what `settle` says.
use Rattle.std.specs.Prelude.{Option}
use mathlib.Core.Path.{◌≡◌, sym, ap, ◌∙◌}
use mathlib.Core.List.{List}
use Prim.Native.Nat.{ℕ, ◌+◌, ◌-◌, min, ◌≤◌, ◌<◌}
use native.Mathlib.Omega.{arith}
use lib.ListN.{get_or, set}
use lib.Seq.{drop-drop}
use Rattle.labels.specs.declared.Label.{Label}
use Rattle.labels.specs.Order.{join}
use Rattle.model.specs.declared.Kind.{Kind}
use Rattle.model.specs.declared.Kind.TheVariants.{Sealed}
use Rattle.model.specs.declared.Datum.{Datum}
use Rattle.model.specs.declared.Datum.TheVariants.{Number, Label as Labelled, Handle}
use Rattle.model.specs.declared.Value.{Value}
use Rattle.model.specs.declared.Frame.{Frame}
use Rattle.model.specs.declared.Contents.TheVariants.{Value as Holds}
use Rattle.model.specs.declared.Ending.{Ending}
use Rattle.model.specs.declared.Ending.TheVariants.{Result, Fault as Faulted}
use Rattle.model.specs.State.{Control, Store, Program, Outcome, at, number, value, push, with_frames, with_label, with_next}
use Rattle.model.specs.declared.Account.{Account}
use Rattle.model.specs.Effects.{go, fail, fail_to, holding, outcome, body_account, seal_outcome}
use Rattle.model.specs.Running.{runs}
use Rattle.store.specs.Records.{record_label, record_value, rewritten}
use Rattle.operands.specs.Program.{program}
use Rattle.operands.specs.Tasks.{label_of}
use Rattle.operands.specs.declared.Origin.{Origin}
use Rattle.operands.specs.declared.Both.{Both}
use Rattle.operands.specs.declared.Effect.{Effect}
use Rattle.operands.specs.declared.Effect.TheVariants.{Fault, Drop, Jump, Number as Gives, Handle as GivesHandle, Label as GivesLabel, Pair as GivesPair, Get, Set, Try, Done, End, Raise, Lower, Make, Write, Open, Block}
use Rattle.effects.specs.Decisions.{label_from, paired_of, raised_by, sealed_of}
use Rattle.effects.proofs.Taking.{settle, Cleared}
use Rattle.machine.specs.declared.State.{State}
use Rattle.model.specs.declared.Finished.{Finished}
use Rattle.machine.specs.State.{no_frame, Ok, Live, control, account, Ran, pushed, label_raised, ended, caught, handled}
use Rattle.machine.specs.Steps.{meant, Finishes, begun}
use Rattle.machine.specs.declared.program.Program.{Program as Given}
use Rattle.machine.proofs.Stack.{drop_one, drop_none, drop_cut}
use Rattle.machine.proofs.Methods.{relabelled, lowered, taken, jumped, with_locals, framed, unframed, ok_pushed, control_pushed, ok_kept, ok_framed, control_framed, next_live, Room, roomy}

-- the places that a block pays, as the code adds them up
pub one_and : (n j : ℕ) → n + (1 + j) ≡ n + 1 + j
one_and n j = omega arith

-- ── faults ──

fail_none : (s : State) (σ : Store) (code n : ℕ) → Ok s → s.newest ≡ 8 → Ran (ended (Faulted code n) s) σ (fail code n (control s) (account s) σ)
unfolding fail_to
fail_none s σ code n o e = record { ok = o; eq = rw (drop_none s.frames s.newest 8 o.frames.size (omega arith)) }

fail_some : (s : State) (σ : Store) (f : Frame) (code n : ℕ) → Ok s → Live s → s.newest < 8 → f ≡ get_or s.frames s.newest no_frame → Ran (handled f code n s) σ (fail code n (control s) (account s) σ)
unfolding fail_to
fail_some s σ f code n o l h e =
    let low : f.height ≤ 30 = rw e (o.frames.low s.newest) in
    let m = min (32 - s.top) f.height in
    let small : m ≤ 30 = omega arith in
    let s1 : State = caught f m s in
    let o1 : Ok s1 = record { stack = record { index = omega arith; size = o.stack.size }; frames = record { index = omega arith; size = o.frames.size; low = o.frames.low }; locals = o.locals; places = o.places } in
    let p1 : 0 < s1.top = omega arith in
    let s2 : State = pushed (number code) s1 in
    let o2 : Ok s2 = ok_pushed (number code) s1 o1 p1 in
    let p2 : 0 < s2.top = omega arith in
    let s3 : State = pushed (number n) s2 in
    let z = o.frames.size in
    record {
      ok = ok_pushed (number n) s2 o2 p2;
      eq = next_live s3 l σ
          ∙ ap (λ (c : Control). go c (account s1) σ) (control_pushed (number n) s2 o2 p2 ∙ ap (push (Number n)) (control_pushed (number code) s1 o1 p1))
          ∙ rw (drop_one s.frames s.newest no_frame (omega arith), ← e, ← drop_cut s.stack s.top f.height 32 o.stack.size o.stack.index);
    }

-- ── each effect ──

-- what it is applied to: a state whose operands are dropped, y and x being the top one and the one below
pub record Decided : Type 0 where
  pub program : Given
  pub σ : Store
  pub y : Datum
  pub x : Datum
  pub s : State
  pub ok : Ok s
  pub live : Live s

module _ (z : Decided) where
  abbrev g : Given
  g = z.program

  abbrev P : Program
  P = meant g

  abbrev σ : Store
  σ = z.σ

  abbrev y : Datum
  y = z.y

  abbrev x : Datum
  x = z.x

  abbrev s : State
  s = z.s

  abbrev o : Ok s
  o = z.ok

  abbrev live : Live s
  live = z.live

  abbrev pub Settled : State → Store → Effect → Type 0
  Settled r τ e = Ran r τ (settle g.code.now g.labels.now g.records.now (runs P) (control s) (account s) σ y x e)

  -- no frame is there, or one
  pub does_end_fault : (by : Option ℕ) (l : Label) (f n : ℕ) → l ≡ raised_by s.label by σ → s.newest ≡ 8 → Settled (ended (Faulted f n) (relabelled l s)) σ (Fault by f n)
  does_end_fault by l f n e h = rw (← e) (fail_none (relabelled l s) σ f n o h)

  pub does_catch : (by : Option ℕ) (l : Label) (f n : ℕ) (q : Frame) → l ≡ raised_by s.label by σ → s.newest < 8 → q ≡ get_or s.frames s.newest no_frame → Settled (handled q f n (relabelled l s)) σ (Fault by f n)
  does_catch by l f n q e h eq = rw (← e) (fail_some (relabelled l s) σ q f n o live h eq)

  pub does_drop : Settled s σ Drop
  does_drop = record { ok = o; eq = next_live s live σ }

  pub does_jump : (t : ℕ) → Settled (jumped t s) σ (Jump t)
  does_jump t = record { ok = o; eq = next_live (jumped t s) live σ }

  -- the locals after a store, or as they were where i is past their end
  pub does_set : (i : ℕ) (ls : List Value) → ls ≡ set s.locals i (value y) → Settled (with_locals ls s) σ (Set i)
  does_set i ls e = rw e (record { ok = ok_kept i (value y) s o; eq = next_live (with_locals (set s.locals i (value y)) s) live σ })

  pub does_end : (d : Datum) → d ≡ y → Settled (ended (Result d) s) σ End
  does_end d e = record { ok = o; eq = rw e }

  pub does_raise : (l : Label) → l ≡ label_of y → Settled (label_raised l s) σ Raise
  does_raise l e = rw (← e) (record { ok = o; eq = next_live (label_raised l s) live σ })

  pub does_lower : (l : Label) → l ≡ label_of y → Settled (lowered l s) σ Lower
  does_lower l e = rw (← e) (record { ok = o; eq = next_live (lowered l s) live σ })

  pub does_write : (p : ℕ) (τ : Store) → τ ≡ set σ p (rewritten x (at σ p)) → Settled s τ (Write p)
  does_write p τ e = record { ok = o; eq = next_live s live τ ∙ ap (go (control s) (account s)) e }

  -- ── a value pushed ──

  module _ {f d m : ℕ} (w : Room s 1 f d m) where
    control_gave : (v : Datum) → control (pushed (value v) s) ≡ push v (control s)
    control_gave v = control_pushed (value v) s o w.room

    ok_gave : (v : Datum) → Ok (pushed (value v) s)
    ok_gave v = ok_pushed (value v) s o w.room

    gave : (v : Datum) → Ran (pushed (value v) s) σ (go (push v (control s)) (account s) σ)
    gave v = record { ok = ok_gave v; eq = next_live (pushed (value v) s) live σ ∙ ap (λ (c : Control). go c (account s) σ) (control_gave v) }

    pub does_number : (n : ℕ) → Settled (pushed (number n) s) σ (Gives n)
    does_number n = gave (Number n)

    pub does_handle : (h : Kind) (p : ℕ) → Settled (pushed (value (Handle h p)) s) σ (GivesHandle h p)
    does_handle h p = gave (Handle h p)

    pub does_label : (a : Origin) (l : Label) → l ≡ label_from a s.label s.clearance g.labels.now σ → Settled (pushed (value (Labelled l)) s) σ (GivesLabel a)
    does_label a l e = rw (← e) (gave (Labelled l))

    pub does_pair : (f : Both) (m l b : Label) → m ≡ label_of y → l ≡ label_of x → b ≡ paired_of f m l → Settled (pushed (value (Labelled b)) s) σ (GivesPair f)
    does_pair f m l b em el eb = rw (← em, ← el, ← eb) (gave (Labelled b))

    pub does_get : (i : ℕ) (v : Datum) → v ≡ (get_or s.locals i (number 0)).datum → Settled (pushed (value v) s) σ (Get i)
    does_get i v e = rw (← e) (gave v)

    pub does_open : (p : ℕ) (l : Label) (v : Datum) → l ≡ record_label (at σ p) → v ≡ record_value (at σ p) → Settled (pushed (value v) (label_raised l s)) σ (Open p)
    does_open p l v el ev =
        rw (← el, ← ev)
        (record { ok = ok_gave v; eq = next_live (pushed (value v) (label_raised l s)) live σ ∙ ap (λ (c : Control). go c (with_label (join s.label l) (account s)) σ) (control_gave v) })

  pub does_make : (h : Kind) (l : Label) (τ : Store) → Room s 1 0 0 1 → l ≡ label_of y → τ ≡ set σ s.next (holding h l (Holds x))
      → Settled (pushed (value (Handle h s.next)) (taken 1 s)) τ (Make h)
  does_make h l τ w el e =
      let v : Datum = Handle h s.next in
      let m = o.places.most in
      rw (← el)
      (record {
        ok = record { stack = (ok_gave w v).stack; frames = o.frames; locals = o.locals; places = record { used = omega (arith, w.places); most = m } };
        eq = next_live (pushed (value v) (taken 1 s)) live τ
            ∙ ap (λ (c : Control). go c (with_next (s.next + 1) (account s)) τ) (control_gave w v)
            ∙ ap (go (push v (control s)) (with_next (s.next + 1) (account s))) e;
      })

  -- ── frames ──

  pub does_try : (h : ℕ) → Room s 2 1 0 0 → Settled (framed h s) σ (Try h)
  does_try h w =
      record {
        ok = ok_framed h s o w.free w.room;
        eq = next_live (framed h s) live σ ∙ ap (λ (c : Control). go c (account s) σ) (control_framed h s o w.free);
      }

  pub does_done : Room s 0 0 1 0 → Settled (unframed s) σ Done
  does_done w =
      record {
        ok = record { stack = o.stack; frames = record { index = omega (arith, w.held); size = o.frames.size; low = o.frames.low }; locals = o.locals; places = o.places };
        eq = next_live (unframed s) live σ ∙ ap (λ (fs : List Frame). go (with_frames fs (control s)) (account s) σ) (sym (drop-drop 1 s.newest s.frames));
      }

  -- ── BLOCK ──

  -- after a body: its steps and places are paid, and the outcome's handle is pushed
  abbrev left : ℕ → ℕ → State
  left n j = record { stack = set s.stack (s.top - 1) (value (Handle Sealed s.next)); top = s.top - 1; locals = s.locals; frames = s.frames; newest = s.newest; label = s.label; clearance = s.clearance; steps = s.steps - n; next = s.next + 1 + j; limit = s.limit; depth = s.depth; pc = s.pc; ending = s.ending }

  -- a body that has run, with the records τ, and whose outcome is sealed, with the records υ
  pub does_block : (t n j : ℕ) (τ υ : Store) (b : Label) (a : Account) (q : Finished) → Cleared (control s) (account s) n j → b ≡ label_of y → a ≡ body_account n j (account s)
      → Finishes q τ (runs P (begun t s.locals) a σ) → υ ≡ set τ s.next (holding Sealed b (sealed_of q.label q.ending b))
      → Settled (left n j) υ (Block t n j)
  unfolding outcome program
  does_block t n j τ υ b a q c eb ea ran eu =
      let w : Room s 1 0 0 0 = roomy s o c.fits in
      let d : Datum = Handle Sealed s.next in
      let q0 : Outcome = runs P (begun t s.locals) a σ in
      let ac : Account = account (left n j) in
      let m = o.places.most in
      rw (← eb)
      (record {
        ok = record { stack = (ok_gave w d).stack; frames = o.frames; locals = o.locals; places = record { used = c.room; most = m } };
        eq = next_live (left n j) live υ
            ∙ ap (λ (v : Control). go v ac υ) (control_gave w d)
            ∙ ap (go (push d (control s)) ac) eu
            ∙ ap (λ (v : Label). go (push d (control s)) ac (set τ s.next (holding Sealed b (sealed_of v q.ending b)))) (sym ran.label)
            ∙ ap (λ (v : Ending). go (push d (control s)) ac (set τ s.next (holding Sealed b (sealed_of q0.account.label v b)))) (sym ran.ending)
            ∙ ap (λ (v : Store). go (push d (control s)) ac (set v s.next (holding Sealed b (sealed_of q0.account.label q0.ending b)))) (sym ran.store)
            ∙ ap (λ (v : Account). seal_outcome P (control s) (account s) b n j (runs P (begun t s.locals) v σ)) ea;
      })
