-- What an instruction can do to account and store: six effects. What holds of each holds of every instruction, and what
-- goes through each goes through a run. Theorems on one run are proved by these two principles, once for each effect. They
-- serve what says nothing of the clearance, since a caught fault takes that from a frame; Landing serves what does.
use Rattle.std.specs.Prelude.{None, Some}
use mathlib.Core.Bool.{true}
use mathlib.Core.List.{List, [], ◌∷◌}
use mathlib.Core.Path.{◌≡◌, refl}
use Prim.Native.Nat.{ℕ, zero, suc, ◌+◌, ◌-◌, ◌≤◌, ◌<◌}
use lib.Dec.{leb, ltb}
use borrow.Author.Tests.{ltb-true, leb-true}
use lib.ListN.{set}
use Rattle.labels.specs.declared.Label.{Label}
use Rattle.model.specs.State.{Control, Store, Program, flows_in, Outcome, Runner, at, jump, with_clearance, with_steps, with_next, Slot}
use Rattle.model.specs.declared.Account.{Account}
use Rattle.model.specs.Operands.{Request, none, ends, throws, raises, lowers, labels, opens, makes, writes, blocks, Plan, faults, asks, plan}
use Rattle.model.specs.Effects.{Next, go, stop, fail_to, fail, check_between, check_raise, raised, holding, yield, open_slot, label_slot, write_slot, body_control, body_account, act}
use Rattle.model.specs.Running.{perform, step, resume, pay, run}
use Rattle.model.specs.declared.Kind.{Kind}
use Rattle.model.specs.declared.Kind.TheVariants.{Sealed}
use Rattle.model.specs.declared.Datum.{Datum}
use Rattle.model.specs.declared.Contents.{Contents}
use Rattle.model.specs.declared.Contents.TheVariants.{Value as Holds, Fault}
use Rattle.model.specs.declared.Record.{Record}
use Rattle.model.specs.declared.Frame.{Frame}
use Rattle.model.proofs.Tests.{cond_one}

abbrev pub account_of : Next → Account
account_of (go c a σ) = a
account_of (stop e a σ) = a

abbrev pub store_of : Next → Store
store_of (go c a σ) = σ
store_of (stop e a σ) = σ

-- a property of the account and store with which a run goes on, or stops
abbrev pub Of : (Account → Store → Type 0) → Next → Type 0
Of G x = G (account_of x) (store_of x)

-- G says nothing of the clearance
abbrev pub AnyClearance : (Account → Store → Type 0) → Type 0
AnyClearance G = (a : Account) (σ : Store) (m : Label) → G a σ → G (with_clearance m a) σ

-- G holds after each of the six effects on account a and store σ. Each effect comes with the checks that it passed.
pub record Effects (P : Program) (R : Runner) (a : Account) (σ : Store) (G : Account → Store → Type 0) : Type 0 where
  -- a fault that is not caught, or a change of the script's part only
  pub keeps : G a σ
  -- LOWER; and a caught fault, which gives back a frame's clearance, OPEN's raise made before it
  pub clears : AnyClearance G
  pub raises_to : (l : Label) → flows_in P (P.join a.label l) a.clearance ≡ true → G (raised P l a) σ
  pub made : (h : Kind) (l : Label) (d : Datum) → flows_in P a.label l ≡ true → flows_in P l a.clearance ≡ true → a.next < a.limit
      → G (with_next (a.next + 1) a) (set σ a.next (holding h l (Holds d)))
  pub written : (p : ℕ) (x : Record) (d : Datum) → at σ p ≡ Some x → flows_in P a.label x.label ≡ true
      → flows_in P x.label a.clearance ≡ true → G a (set σ p (holding x.kind x.label (Holds d)))
  -- whatever the outcome x is
  pub blocked : (c : Control) (b : Label) (n k : ℕ) → flows_in P a.label b ≡ true → flows_in P b a.clearance ≡ true → n ≤ a.steps
      → a.next + 1 + k ≤ a.limit → (x : Contents)
      → G (with_next (a.next + 1 + k) (with_steps (a.steps - n) a)) (set (R c (body_account n k a) σ).store a.next (holding Sealed b x))

-- ── one instruction ──

module _ (G : Account → Store → Type 0) (clears : AnyClearance G) where
  -- faults and contents leave the store as it is, and the account but for its clearance
  pub fail_of : (code n : ℕ) (c : Control) (a : Account) (σ : Store) → G a σ → Of G (fail code n c a σ)
  unfolding fail_to
  fail_of code n c a σ g = frames c.frames
    where
      frames : (fs : List Frame) → Of G (fail_to fs code n c a σ)
      frames [] = g
      frames (f ∷ fs) = clears a σ f.clearance g

  pub yield_of : (c r : Control) (a : Account) (σ : Store) (x : Contents) → G a σ → Of G (yield c r a σ x)
  unfolding yield
  yield_of c r a σ (Holds d) g = g
  yield_of c r a σ (Fault code n) g = fail_of code n c a σ g

module _ (G : Account → Store → Type 0) where
  module _ (P : Program) (R : Runner) (c : Control) (a : Account) (σ : Store) (E : Effects P R a σ G) where
    fails : (code n : ℕ) → Of G (fail code n c a σ)
    fails code n = fail_of G E.clears code n c a σ E.keeps

    between_of : (first second : ℕ) (l : Label) (x : Next) → (flows_in P a.label l ≡ true → flows_in P l a.clearance ≡ true → Of G x)
        → Of G (check_between P first second l c a σ x)
    between_of first second l x h =
        cond_one (Of G) (flows_in P a.label l)
        (λ e. cond_one (Of G) (flows_in P l a.clearance) (λ f. h e f) (λ _. fails second _))
        (λ _. fails first _)

    raise_of : (l : Label) (x : Next) → (flows_in P (P.join a.label l) a.clearance ≡ true → Of G x) → Of G (check_raise P l c a σ x)
    raise_of l x h = cond_one (Of G) (flows_in P (P.join a.label l) a.clearance) h (λ _. fails 24 _)

    open_of : (r : Control) (x : Slot) → Of G (open_slot P c r a σ x)
    unfolding open_slot
    open_of r None = fails 33 0
    open_of r (Some x) =
        raise_of x.label _ (λ e. yield_of G E.clears c r (raised P x.label a) σ x.contents (E.raises_to x.label e))

    label_of : (r : Control) (x : Slot) → Of G (label_slot c r a σ x)
    unfolding label_slot
    label_of r None = fails 33 0
    label_of r (Some x) = E.keeps

    write_of : (r : Control) (p : ℕ) (d : Datum) (x : Slot) → at σ p ≡ x → Of G (write_slot P c r a σ p d x)
    unfolding write_slot
    write_of r p d None e = fails 33 0
    write_of r p d (Some x) e = between_of 23 24 x.label _ (λ f g. E.written p x d e f g)

    act_of : (r : Control) (q : Request) → Of G (act P R c r a σ q)
    unfolding act
    act_of r none = E.keeps
    act_of r (ends d) = E.keeps
    act_of r (throws n) = fails 30 n
    act_of r (raises l) = raise_of l _ (λ e. E.raises_to l e)
    act_of r (lowers l) = between_of 25 25 l _ (λ _ _. E.clears a σ l E.keeps)
    act_of r (labels p) = label_of r (at σ p)
    act_of r (opens p) = open_of r (at σ p)
    act_of r (makes h l d) =
        between_of 23 24 l _
        (λ f g. cond_one (Of G) (ltb a.next a.limit) (λ e. E.made h l d f g (ltb-true a.next a.limit e)) (λ _. fails 26 0))
    act_of r (writes p d) = write_of r p d (at σ p) refl
    act_of r (blocks b t n k) =
        between_of 23 24 b _
        (λ f g. cond_one (Of G) (ltb a.depth 8)
        (λ _. cond_one (Of G) (leb n a.steps)
        (λ d. cond_one (Of G) (leb (a.next + 1 + k) a.limit)
        (λ e. E.blocked (body_control t r) b n k f g (leb-true n a.steps d) (leb-true (a.next + 1 + k) a.limit e) _)
        (λ _. fails 26 0))
        (λ _. fails 27 0))
        (λ _. fails 28 0))

    perform_of : (q : Plan) → Of G (perform P R c a σ q)
    unfolding perform
    perform_of (faults code) = fails code 0
    perform_of (asks r q) = act_of r q

  -- what holds after each effect holds after each instruction
  pub step_of : (P : Program) (R : Runner) (c : Control) (a : Account) (σ : Store) → Effects P R a σ G → Of G (step P R c a σ)
  unfolding step
  step_of P R c a σ E = perform_of P R (jump (P.after c.pc) c) a σ E (plan P a (jump (P.after c.pc) c) (P.fetch c.pc))

-- ── a run ──

-- A relation K between a run's start and its end, from starts where I holds: through each effect, and from one to the next
pub record Runs (P : Program) (I : Account → Store → Type 0) (K : Account → Store → Account → Store → Type 0) : Type 0 where
  pub holds : (a b : Account) (σ τ : Store) → K a σ b τ → I b τ
  pub same : (a : Account) (σ : Store) → I a σ → K a σ a σ
  pub chain : (a b c : Account) (σ τ ρ : Store) → K a σ b τ → K b τ c ρ → K a σ c ρ
  pub pays : (a : Account) (σ : Store) (n : ℕ) → I a σ → a.steps ≡ suc n → K a σ (with_steps n a) σ
  -- if K relates each start and end of the runner for bodies
  pub effects : (R : Runner) → ((c : Control) (a : Account) (σ : Store) → I a σ → K a σ (R c a σ).account (R c a σ).store)
      → (a : Account) (σ : Store) → I a σ → Effects P R a σ (K a σ)

module _ (P : Program) (I : Account → Store → Type 0) (K : Account → Store → Account → Store → Type 0) (S : Runs P I K) where
  pub resume_of : (R : Runner) → ((c : Control) (a : Account) (σ : Store) → I a σ → K a σ (R c a σ).account (R c a σ).store)
      → (a : Account) (σ : Store) (x : Next) → Of (K a σ) x → K a σ (resume R x).account (resume R x).store
  unfolding resume
  resume_of R h a σ (go c b τ) k = S.chain a b (R c b τ).account σ τ (R c b τ).store k (h c b τ (S.holds a b σ τ k))
  resume_of R h a σ (stop e b τ) k = k

  pay_of : (n : ℕ) (a : Account) (σ : Store) (k : Account → Outcome) → a.steps ≡ n → I a σ
      → ((m : ℕ) → I (with_steps m a) σ → K (with_steps m a) σ (k (with_steps m a)).account (k (with_steps m a)).store)
      → K a σ (pay n a σ k).account (pay n a σ k).store
  unfolding pay
  pay_of zero a σ k e i h = S.same a σ i
  pay_of (suc n) a σ k e i h =
      S.chain a (with_steps n a) (k (with_steps n a)).account σ σ (k (with_steps n a)).store (S.pays a σ n i e)
      (h n (S.holds a (with_steps n a) σ σ (S.pays a σ n i e)))

  pub run_of : (f : ℕ) (c : Control) (a : Account) (σ : Store) → I a σ → K a σ (run P f c a σ).account (run P f c a σ).store
  unfolding run
  run_of zero c a σ i = S.same a σ i
  run_of (suc f) c a σ i =
      pay_of a.steps a σ (λ b. resume (run P f) (step P (run P f) c b σ)) refl i
      (λ m j. resume_of (run P f) (run_of f) (with_steps m a) σ (step P (run P f) c (with_steps m a) σ)
      (step_of (K (with_steps m a) σ) P (run P f) c (with_steps m a) σ (S.effects (run P f) (run_of f) (with_steps m a) σ j)))
