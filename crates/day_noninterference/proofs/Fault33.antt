-- "fault 33 starts only from reading such contents": in an accepted day no operand fault and no check has that code, and no
-- place that is asked for is empty. What is left is OPEN or READ of a record whose contents are fault 33.
use Rattle.std.specs.Prelude.{None, Some}
use mathlib.Core.Bool.{Bool, true}
use mathlib.Core.List.{List, [], ◌∷◌}
use mathlib.Core.Logic.{◌≢◌}
use mathlib.Core.Path.{◌≡◌, refl, sym, ap, ◌∙◌, subst}
use Prim.Native.Nat.{ℕ, ◌+◌, ◌-◌, ◌<◌}
use native.Mathlib.Omega.{arith}
use lib.Dec.{leb, ltb, lit<}
use lib.ListN.{length}
use Rattle.labels.specs.declared.Label.{Label}
use Rattle.model.specs.State.{Control, Store, Program, flows_in, Runner, at, jump, with_frames, with_stack, Slot}
use Rattle.model.specs.declared.Account.{Account}
use Rattle.model.specs.Operands.{Request, none, ends, throws, raises, lowers, labels, opens, makes, writes, blocks, Plan, faults, asks, pop_from, as_number, as_label, as_handle, as_sealed, as_reference, arity, drop_frame, operate, plan}
use Rattle.model.specs.Effects.{Next, go, stop, fail_to, fail, check, check_flow, check_between, check_raise, raised, yield, open_slot, label_slot, write_slot, act}
use Rattle.model.specs.Running.{perform, step, start_control}
use Rattle.model.specs.declared.Kind.TheVariants.{Sealed, Reference}
use Rattle.model.specs.declared.Datum.{Datum}
use Rattle.model.specs.declared.Datum.TheVariants.{Number, Label as Labelled, Handle}
use Rattle.model.specs.declared.Value.{Value}
use Rattle.model.specs.declared.Contents.{Contents}
use Rattle.model.specs.declared.Contents.TheVariants.{Value as Held, Fault}
use Rattle.model.specs.declared.Record.{Record}
use Rattle.model.specs.declared.Frame.{Frame}
use Rattle.model.specs.declared.Ending.TheVariants.{Result, Fault as Faulted, Spent}
use Rattle.model.specs.declared.Instr.{Instr}
use Rattle.model.specs.declared.Instr.TheVariants.{End, Push, Lab, Get, Set, Pop, Add, Sub, Less, Same, Jump, Ifz, Cur, Clr, Raise, Lower, Flows, Join, Meet, Seal, Open, Labof, New, Read, Write, Block, Try, Done, Throw, Input}
use Rattle.model.proofs.Tests.{cond_one}
use Rattle.model.proofs.Reached.{Reached, Holds, next_plan}
use Rattle.day_file.specs.declared.Job.{Job}
use Rattle.day_file.specs.Checks.{day_refusal}
use Rattle.day_jobs.specs.Running.{job_program, job_account}
use Rattle.day_noninterference.proofs.Accepted.{Comes, day_accepted}

-- ── the statement ──

-- the next instruction, its step paid, its fault not caught
abbrev pub uncaught : Program → Runner → Control → Account → Store → Next
uncaught P R c a σ = perform P R (with_frames [] (jump (P.after c.pc) c)) a σ (next_plan P c a)

-- with no frame to catch it, it is the instruction
pub uncaught_step : (P : Program) (R : Runner) (c : Control) (a : Account) (σ : Store) → c.frames ≡ [] → uncaught P R c a σ ≡ step P R c a σ
unfolding step
uncaught_step P R c a σ e =
    ap (λ (fs : List Frame). perform P R (with_frames fs (jump (P.after c.pc) c)) a σ (next_plan P c a)) (sym e)

-- A plan asks for the contents of a record, and these are fault 33 with number n.
pub record Reads33 (σ : Store) (p : Plan) (n : ℕ) : Type 0 where
  pub rest : Control
  pub place : ℕ
  pub asked : p ≡ asks rest (opens place)
  pub held : Record
  pub there : at σ place ≡ Some held
  pub fault : held.contents ≡ Fault 33 n

-- ── operands: 20, 21, 22 and 29 ──

abbrev Below : Plan → Type 0
Below (faults code) = code < 30
Below (asks r q) = Unit {0}

pop_below : (c : Control) (s : List Value) (k : Datum → Control → Plan) → ((d : Datum) (r : Control) → Below (k d r)) → Below (pop_from c s k)
unfolding pop_from
pop_below c [] k h = lit< tt
pop_below c (v ∷ s) k h = h v.datum (with_stack s c)

number_below : (d : Datum) (k : ℕ → Plan) → ((n : ℕ) → Below (k n)) → Below (as_number d k)
unfolding as_number
number_below (Number n) k h = h n
number_below d k h = lit< tt

label_below : (d : Datum) (k : Label → Plan) → ((l : Label) → Below (k l)) → Below (as_label d k)
unfolding as_label
label_below (Labelled l) k h = h l
label_below d k h = lit< tt

handle_below : (d : Datum) (k : ℕ → Plan) → ((p : ℕ) → Below (k p)) → Below (as_handle d k) × Below (as_sealed d k) × Below (as_reference d k)
unfolding as_handle as_sealed as_reference
handle_below (Handle Sealed p) k h = (h p, h p, lit< tt)
handle_below (Handle Reference p) k h = (h p, lit< tt, h p)
handle_below d k h = (lit< tt, lit< tt, lit< tt)

frame_below : (c : Control) (fs : List Frame) → Below (drop_frame c fs)
unfolding drop_frame
frame_below c [] = lit< tt
frame_below c (f ∷ fs) = tt

module _ (P : Program) (a : Account) (c : Control) where
  one : (k : Datum → Control → Plan) → ((d : Datum) (r : Control) → Below (k d r)) → Below (pop_from c c.stack k)
  one k h = pop_below c c.stack k h

  operate_below : (i : Instr) → Below (operate P a c i)
  unfolding operate
  operate_below End = one _ (λ d r. tt)
  operate_below (Set i) = one _ (λ d r. tt)
  operate_below Pop = one _ (λ d r. tt)
  operate_below Add = one _ (λ d r. number_below d _ (λ y. pop_below r r.stack _ (λ e q. number_below e _ (λ x. tt))))
  operate_below Sub = one _ (λ d r. number_below d _ (λ y. pop_below r r.stack _ (λ e q. number_below e _ (λ x. tt))))
  operate_below Less = one _ (λ d r. number_below d _ (λ y. pop_below r r.stack _ (λ e q. number_below e _ (λ x. tt))))
  operate_below Same = one _ (λ d r. number_below d _ (λ y. pop_below r r.stack _ (λ e q. number_below e _ (λ x. tt))))
  operate_below (Ifz t) = one _ (λ d r. number_below d _ (λ n. tt))
  operate_below Raise = one _ (λ d r. label_below d _ (λ l. tt))
  operate_below Lower = one _ (λ d r. label_below d _ (λ l. tt))
  operate_below Flows = one _ (λ d r. label_below d _ (λ m. pop_below r r.stack _ (λ e q. label_below e _ (λ l. tt))))
  operate_below Join = one _ (λ d r. label_below d _ (λ m. pop_below r r.stack _ (λ e q. label_below e _ (λ l. tt))))
  operate_below Meet = one _ (λ d r. label_below d _ (λ m. pop_below r r.stack _ (λ e q. label_below e _ (λ l. tt))))
  operate_below Seal = one _ (λ d r. label_below d _ (λ l. pop_below r r.stack _ (λ e q. tt)))
  operate_below Open = one _ (λ d r. (handle_below d _ (λ p. tt)).1)
  operate_below Labof = one _ (λ d r. (handle_below d _ (λ p. tt)).0)
  operate_below New = one _ (λ d r. label_below d _ (λ l. pop_below r r.stack _ (λ e q. tt)))
  operate_below Read = one _ (λ d r. (handle_below d _ (λ p. tt)).2)
  operate_below Write = one _ (λ d r. pop_below r r.stack _ (λ e q. (handle_below d _ (λ p. tt)).2))
  operate_below (Block t n k) = one _ (λ d r. label_below d _ (λ l. tt))
  operate_below (Try h) = cond_one Below (ltb (length c.frames) 8) (λ _. tt) (λ _. lit< tt)
  operate_below Done = frame_below c c.frames
  operate_below Throw = one _ (λ d r. number_below d _ (λ n. tt))
  operate_below i = tt

  plan_below : (i : Instr) → Below (plan P a c i)
  unfolding plan
  plan_below i =
      cond_one Below (leb (arity i).takes (length c.stack))
      (λ _. cond_one Below (leb (length c.stack - (arity i).takes + (arity i).leaves) 32) (λ _. operate_below i) (λ _. lit< tt))
      (λ _. lit< tt)

-- ── requests ──

-- if it ends with fault 33, its number is one of G
unfoldable Only : (ℕ → Type 0) → Next → Type 0
Only G (go c a σ) = Unit {0}
Only G (stop (Result d) a σ) = Unit {0}
Only G (stop (Faulted code n) a σ) = code ≡ 33 → G n
Only G (stop Spent a σ) = Unit {0}

module _ (G : ℕ → Type 0) where
  goes_on : (c : Control) (a : Account) (σ : Store) → Only G (go c a σ)
  unfolding Only
  goes_on c a σ = tt

  returns : (d : Datum) (a : Account) (σ : Store) → Only G (stop (Result d) a σ)
  unfolding Only
  returns d a σ = tt

  faulted : (code n : ℕ) (c : Control) (a : Account) (σ : Store) → (code ≡ 33 → G n) → Only G (fail code n (with_frames [] c) a σ)
  unfolding Only fail_to
  faulted code n c a σ h = h

module _ (P : Program) (R : Runner) (c r : Control) (a : Account) (σ : Store) (G : ℕ → Type 0) where
  -- a check with another code
  other : (t : Bool) (code n : ℕ) (x : Next) → code < 33 → Only G x → Only G (check t code n (with_frames [] c) a σ x)
  other t code n x lt h = cond_one (Only G) t (λ _. h) (λ _. faulted G code n c a σ (λ e. absurd (omega arith)))

  flow_only : (l m : Label) (code : ℕ) (x : Next) → code < 33 → Only G x → Only G (check_flow P l m code (with_frames [] c) a σ x)
  flow_only l m code x lt h = other (flows_in P l m) code _ x lt h

  -- 24 of RAISE, OPEN and READ; 23 and 24 of a target, or 25 twice
  raise_only : (l : Label) (x : Next) → Only G x → Only G (check_raise P l (with_frames [] c) a σ x)
  raise_only l x h = flow_only (P.join a.label l) a.clearance 24 _ (lit< tt) h

  between_only : (first second : ℕ) (l : Label) (x : Next) → first < 33 → second < 33 → Only G x
      → Only G (check_between P first second l (with_frames [] c) a σ x)
  between_only first second l x f g h = flow_only a.label l first _ f (flow_only l a.clearance second x g h)

  open_only : (x : Slot) → x ≢ None → ((y : Record) (n : ℕ) → x ≡ Some y → y.contents ≡ Fault 33 n → G n) → Only G (open_slot P (with_frames [] c) r a σ x)
  unfolding open_slot yield
  open_only None full h = absurd (full refl)
  open_only (Some y) full h = raise_only y.label _ (of_contents y.contents refl)
    where
      of_contents : (z : Contents) → y.contents ≡ z → Only G (yield (with_frames [] c) r (raised P y.label a) σ z)
      of_contents (Held d) e = goes_on G _ _ _
      of_contents (Fault code n) e = faulted G code n c (raised P y.label a) σ (λ g. h y n refl (e ∙ ap (λ (k : ℕ). Fault k n) g))

  label_only : (x : Slot) → x ≢ None → Only G (label_slot (with_frames [] c) r a σ x)
  unfolding label_slot
  label_only None full = absurd (full refl)
  label_only (Some y) full = goes_on G _ _ _

  write_only : (p : ℕ) (d : Datum) (x : Slot) → x ≢ None → Only G (write_slot P (with_frames [] c) r a σ p d x)
  unfolding write_slot
  write_only p d None full = absurd (full refl)
  write_only p d (Some y) full = between_only 23 24 y.label _ (lit< tt) (lit< tt) (goes_on G _ _ _)

  act_only : (q : Request) → Holds σ q → ((p : ℕ) (y : Record) (n : ℕ) → q ≡ opens p → at σ p ≡ Some y → y.contents ≡ Fault 33 n → G n)
      → Only G (act P R (with_frames [] c) r a σ q)
  unfolding act
  act_only none full h = goes_on G _ _ _
  act_only (ends d) full h = returns G _ _ _
  act_only (throws n) full h = faulted G 30 n c a σ (λ e. absurd (omega arith))
  act_only (raises l) full h = raise_only l _ (goes_on G _ _ _)
  act_only (lowers l) full h = between_only 25 25 l _ (lit< tt) (lit< tt) (goes_on G _ _ _)
  act_only (labels p) full h = label_only (at σ p) full
  act_only (opens p) full h = open_only (at σ p) full (λ y n. h p y n refl)
  act_only (makes k l d) full h = between_only 23 24 l _ (lit< tt) (lit< tt) (other (ltb a.next a.limit) 26 0 _ (lit< tt) (goes_on G _ _ _))
  act_only (writes p d) full h = write_only p d (at σ p) full
  act_only (blocks b t n k) full h =
      between_only 23 24 b _ (lit< tt) (lit< tt)
      (other (ltb a.depth 8) 28 0 _ (lit< tt)
      (other (leb n a.steps) 27 0 _ (lit< tt) (other (leb (a.next + 1 + k) a.limit) 26 0 _ (lit< tt) (goes_on G _ _ _))))

-- ── the instruction ──

module _ (P : Program) (R : Runner) (c : Control) (a : Account) (σ : Store) where
  perform_only : (p : Plan) → Below p → ((r : Control) (q : Request) → p ≡ asks r q → Holds σ q) → Only (Reads33 σ p) (perform P R (with_frames [] c) a σ p)
  unfolding perform
  perform_only (faults code) lt h = faulted (Reads33 σ (faults code)) code 0 c a σ (λ e. absurd (omega arith))
  perform_only (asks r q) lt h =
      act_only P R c r a σ (Reads33 σ (asks r q)) q (h r q refl)
      (λ p y n e there f. record { rest = r; place = p; asked = ap (asks r) e; held = y; there = there; fault = f })

module _ (P : Program) (R : Runner) (c : Control) (a : Account) (σ : Store) where
  -- An instruction that finds a record wherever it asks for one throws 33 only by reading it.
  pub only_33 : ((r : Control) (q : Request) → next_plan P c a ≡ asks r q → Holds σ q) → (n : ℕ) (b : Account) (τ : Store)
      → uncaught P R c a σ ≡ stop (Faulted 33 n) b τ → Reads33 σ (next_plan P c a) n
  unfolding Only
  only_33 h n b τ e =
      subst (Only (Reads33 σ (next_plan P c a))) e
      (perform_only P R (jump (P.after c.pc) c) a σ (next_plan P c a) (plan_below P a (jump (P.after c.pc) c) (P.fetch c.pc)) h) refl

-- In an accepted day, whatever state a job's run comes to, its next instruction throws 33 only by reading contents that are it.
pub day_only_33 : (bs : List ℕ) → day_refusal bs ≡ 0 → {j : Job} {js : List Job} {ads : List Bool} {σ : Store} → Comes bs (j ∷ js) (true ∷ ads) σ
    → (c : Control) (a : Account) (τ : Store) → Reached (job_program bs j) start_control (job_account bs j) σ c a τ
    → (R : Runner) (b d : Account) (n : ℕ) (ρ : Store) → uncaught (job_program bs j) R c b τ ≡ stop (Faulted 33 n) d ρ
    → Reads33 τ (next_plan (job_program bs j) c b) n
day_only_33 bs ok {j = j} h c a τ reached R b d n ρ e =
    only_33 (job_program bs j) R c b τ ((day_accepted bs ok h c a τ reached).record_there b) n d ρ e
