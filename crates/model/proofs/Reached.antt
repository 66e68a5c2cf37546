-- Every state that a run comes to, in itself or in the body of a block: a property of label, clearance and frames that each
-- way to change them keeps holds there, the code goes on only where N holds, and no handle is to an empty place. So the
-- definition's totals, an END past the code and fault 33 of an empty place, are never met.
use Rattle.std.specs.Prelude.{None}
use mathlib.Core.Bool.{Bool, true, true≢false}
use mathlib.Core.List.{List, [], ◌∷◌}
use mathlib.Core.Logic.{◌≢◌}
use mathlib.Core.Path.{◌≡◌, sym, ap, subst}
use Prim.Native.Nat.{ℕ, zero, suc, ◌+◌, ◌≤◌}
use native.Mathlib.Omega.{arith}
use Rattle.labels.specs.declared.Label.{Label}
use Rattle.model.specs.State.{Control, Store, Program, Outcome, Runner, at, jump, with_steps}
use Rattle.model.specs.declared.Account.{Account}
use Rattle.model.specs.Operands.{Request, labels, opens, writes, blocks, Plan, asks, plan}
use Rattle.model.specs.Effects.{Next, go, stop, body_control, body_account}
use Rattle.model.specs.Running.{step, resume, pay, run, runs}
use Rattle.model.specs.declared.Frame.{Frame}
use Rattle.model.proofs.Effects.{account_of, store_of}
use Rattle.model.proofs.Kept.{LowSet, shell, Fresh, RunnerKept, run_kept, step_kept}
use Rattle.model.proofs.Plans.{Reach, InRequest, InPlan, plan_in}
use Rattle.model.proofs.LowEquivalence.{Twin, LowEquivalent, LowNext, goes, stops, parts}
use Rattle.model.proofs.TwoSteps.{step_two}
use Rattle.model.proofs.TwoRuns.{two_runs}
use Rattle.model.proofs.Landing.{Lands, Keeps, Holding, PlanLands, NextLands, all_dropped, plan_lands, step_lands}

-- ── the statement ──

-- the script's part with its pc behind the instruction, and the plan of that instruction
abbrev behind : Program → Control → Control
behind P c = jump (P.after c.pc) c

abbrev pub next_plan : Program → Control → Account → Plan
next_plan P c a = plan P a (behind P c) (P.fetch c.pc)

-- the states that a run from c₀, a₀, σ₀ comes to: by an instruction, its step paid; and at the start of the body of a block
-- for which there are places
pub data Reached (P : Program) (c₀ : Control) (a₀ : Account) (σ₀ : Store) : Control → Account → Store → Type 0 where
  here : Reached P c₀ a₀ σ₀ c₀ a₀ σ₀
  next : {c d : Control} {a b : Account} {σ τ : Store} (n : ℕ) → Reached P c₀ a₀ σ₀ c a σ → a.steps ≡ suc n
      → step P (runs P) c (with_steps n a) σ ≡ go d b τ → Reached P c₀ a₀ σ₀ d b τ
  body : {c r : Control} {a : Account} {σ : Store} (n : ℕ) (l : Label) (t m k : ℕ) → Reached P c₀ a₀ σ₀ c a σ → a.steps ≡ suc n
      → next_plan P c (with_steps n a) ≡ asks r (blocks l t m k) → a.next + 1 + k ≤ a.limit
      → Reached P c₀ a₀ σ₀ (body_control t r) (body_account m k (with_steps n a)) σ

-- the place that a request reads or writes holds a record
abbrev pub Holds : Store → Request → Type 0
Holds σ (labels p) = at σ p ≢ None
Holds σ (opens p) = at σ p ≢ None
Holds σ (writes p d) = at σ p ≢ None
Holds σ q = Unit {0}

-- ── the proof ──

full : (σ : Store) (p : ℕ) → Twin σ σ p → at σ p ≢ None
unfolding shell
full σ p t e = t.0 (ap shell e)

holds_in : (σ : Store) (q : Request) → InRequest (Twin σ σ) q → Holds σ q
holds_in σ (labels p) i = full σ p i
holds_in σ (opens p) i = full σ p i
holds_in σ (writes p d) i = full σ p i.0
holds_in σ q i = tt

-- every label is seen: the two-run theorem of a run and itself
abbrev pub any_label : Label → Bool
any_label l = true

-- ── a property of label, clearance and frames that every instruction keeps ──

module _ (P : Program) (N : ℕ → Type 0) (H : Label → Label → List Frame → Type 0) (K : Keeps P N H)
    (sound : (pc : ℕ) → N pc → Lands N (P.after pc) (P.fetch pc)) where
  -- holds of every state, if of the first
  pub reached_lands : (c₀ : Control) (a₀ : Account) (σ₀ : Store) → N c₀.pc → Holding H a₀ c₀.frames → (c : Control) (a : Account) (σ : Store)
      → Reached P c₀ a₀ σ₀ c a σ → N c.pc × Holding H a c.frames
  reached_lands c₀ a₀ σ₀ i g c a σ here = (i, g)
  reached_lands c₀ a₀ σ₀ i g d b τ (next {c = c} {a = a} {σ = σ} n h e f) =
      let s = reached_lands c₀ a₀ σ₀ i g c a σ h in
      subst (NextLands N H) f (step_lands P N H K (runs P) c (with_steps n a) σ (sound c.pc s.0) s.1)
  reached_lands c₀ a₀ σ₀ i g d b τ (body {c = c} {r = r} {a = a} {σ = σ} n l t m k h e f le) =
      let s = reached_lands c₀ a₀ σ₀ i g c a σ h in
      let p = subst (PlanLands N H (with_steps n a)) f (plan_lands P N H K (with_steps n a) (behind P c) (P.fetch c.pc) (sound c.pc s.0) s.1) in
      (p.0.0, all_dropped P N H K a.label a.clearance r.frames p.1)

  -- of a runner: the account that it ends with
  abbrev EndsHolding : Runner → Type 0
  EndsHolding R = (c : Control) (a : Account) (σ : Store) → N c.pc → Holding H a c.frames → Holding H (R c a σ).account []

  resume_ends : (R : Runner) → EndsHolding R → (x : Next) → NextLands N H x → Holding H (resume R x).account []
  unfolding resume
  resume_ends R e (go c a σ) h = e c a σ h.0 h.1
  resume_ends R e (stop d a σ) h = h

  pay_ends : (m : ℕ) (c : Control) (a : Account) (σ : Store) (k : Account → Outcome) → Holding H a c.frames
      → ((n : ℕ) → Holding H (k (with_steps n a)).account []) → Holding H (pay m a σ k).account []
  unfolding pay
  pay_ends zero c a σ k g h = all_dropped P N H K a.label a.clearance c.frames g
  pay_ends (suc n) c a σ k g h = h n

  run_ends : (f : ℕ) → EndsHolding (run P f)
  unfolding run
  run_ends zero c a σ i g = all_dropped P N H K a.label a.clearance c.frames g
  run_ends (suc f) c a σ i g =
      pay_ends a.steps c a σ (λ b. resume (run P f) (step P (run P f) c b σ)) g
      (λ n. resume_ends (run P f) (run_ends f) (step P (run P f) c (with_steps n a) σ)
      (step_lands P N H K (run P f) c (with_steps n a) σ (sound c.pc i) g))

  -- and of the account that the run ends with
  pub runs_ends : EndsHolding (runs P)
  unfolding runs
  runs_ends c a σ = run_ends a.steps c a σ

-- the code goes on only where N holds, if the handlers of all frames are there
abbrev Handlers : (ℕ → Type 0) → List Frame → Type 0
Handlers N [] = Unit {0}
Handlers N (f ∷ fs) = N f.handler × Handlers N fs

handlers_keep : (P : Program) (N : ℕ → Type 0) → Keeps P N (λ l m fs. Handlers N fs)
handlers_keep P N =
    record {
      tries = λ l m h n fs i g. (i, g);
      drops = λ l m f fs g. g.1;
      catches = λ l m f fs g. g;
      raises_to = λ l m k fs e g. g;
      lowers_to = λ l m k fs e f g. g;
    }

pub reached_in : (P : Program) (N : ℕ → Type 0) → ((pc : ℕ) → N pc → Lands N (P.after pc) (P.fetch pc)) → (c₀ : Control) (a₀ : Account) (σ₀ : Store)
    → N c₀.pc → c₀.frames ≡ [] → (c : Control) (a : Account) (σ : Store) → Reached P c₀ a₀ σ₀ c a σ → N c.pc
reached_in P N sound c₀ a₀ σ₀ i e c a σ h =
    (reached_lands P N (λ l m fs. Handlers N fs) (handlers_keep P N) sound c₀ a₀ σ₀ i (subst (Handlers N) (sym e) tt) c a σ h).0

-- ── no handle is to an empty place ──

module _ (P : Program) (D : LowSet P any_label) where
  -- of a store: no handle in it is to an empty place
  abbrev Closed : Store → Type 0
  Closed σ = LowEquivalent P any_label σ σ

  pub record Safe (c : Control) (a : Account) (σ : Store) : Type 0 where
    pub fresh : Fresh a σ
    pub reach : Reach (Twin σ σ) c
    pub closed : Closed σ

  runs_kept : RunnerKept P any_label D (runs P)
  unfolding runs
  runs_kept c a σ = run_kept P any_label D a.steps c a σ

  -- what the two-run theorem says of two states of one run
  abbrev Both : Next → Next → Type 0
  Both (go c a σ) (go d b τ) = Reach (Twin σ τ) c × LowEquivalent P any_label σ τ
  Both (go c a σ) (stop e b τ) = Unit {0}
  Both (stop e a σ) y = Unit {0}

  both : (x y : Next) → LowNext P any_label x y → Both x y
  both x y (goes g s) = (g, s)
  both x y (stops o s) = tt
  both x y (parts u v s) = absurd (true≢false u)

  safe_behind : (c : Control) (a : Account) (σ : Store) → Safe c a σ → Reach (Twin σ σ) (behind P c)
  safe_behind c a σ s = record { stack = s.reach.stack; locals = s.reach.locals }

  safe_next : (c d : Control) (a b : Account) (σ τ : Store) → Safe c a σ → step P (runs P) c a σ ≡ go d b τ → Safe d b τ
  safe_next c d a b σ τ s e =
      record {
        fresh = subst (λ (x : Next). Fresh (account_of x) (store_of x)) e (step_kept P any_label D (runs P) runs_kept c a σ s.fresh).fresh;
        reach = two.0;
        closed = two.1;
      }
    where
      two : Both (go d b τ) (go d b τ)
      two = both (go d b τ) (go d b τ)
          (subst (λ (x : Next). LowNext P any_label x x) e
          (step_two P any_label D (runs P) runs_kept (two_runs P any_label D) c a σ σ s.fresh s.fresh s.reach s.closed))

  -- its step paid, a state is as safe
  safe_paid : (c : Control) (a : Account) (σ : Store) (n : ℕ) → Safe c a σ → Safe c (with_steps n a) σ
  safe_paid c a σ n s = record { fresh = s.fresh; reach = s.reach; closed = s.closed }

  safe_body : (c r : Control) (a : Account) (σ : Store) (l : Label) (t m k : ℕ) → Safe c a σ → next_plan P c a ≡ asks r (blocks l t m k)
      → a.next + 1 + k ≤ a.limit → Safe (body_control t r) (body_account m k a) σ
  safe_body c r a σ l t m k s e le =
      record {
        fresh = λ p i. s.fresh p (omega arith);
        reach = record { stack = tt; locals = in_plan.0.locals };
        closed = s.closed;
      }
    where
      in_plan : InPlan (Twin σ σ) (asks r (blocks l t m k))
      in_plan = subst (InPlan (Twin σ σ)) e (plan_in (Twin σ σ) P a s.closed.inputs (behind P c) (safe_behind c a σ s) (P.fetch c.pc))

  pub reached_safe : (c₀ : Control) (a₀ : Account) (σ₀ : Store) → Safe c₀ a₀ σ₀ → (c : Control) (a : Account) (σ : Store)
      → Reached P c₀ a₀ σ₀ c a σ → Safe c a σ
  reached_safe c₀ a₀ σ₀ s c a σ here = s
  reached_safe c₀ a₀ σ₀ s d b τ (next {c = c} {a = a} {σ = σ} n h e f) =
      safe_next c d (with_steps n a) b σ τ (safe_paid c a σ n (reached_safe c₀ a₀ σ₀ s c a σ h)) f
  reached_safe c₀ a₀ σ₀ s d b τ (body {c = c} {r = r} {a = a} {σ = σ} n l t m k h e f le) =
      safe_body c r (with_steps n a) σ l t m k (safe_paid c a σ n (reached_safe c₀ a₀ σ₀ s c a σ h)) f le

  -- the request of the next instruction finds a record where it looks for one
  pub safe_holds : (c : Control) (a : Account) (σ : Store) → Safe c a σ → (b : Account) (r : Control) (q : Request)
      → next_plan P c b ≡ asks r q → Holds σ q
  safe_holds c a σ s b r q e =
      holds_in σ q
      (subst (InPlan (Twin σ σ)) e (plan_in (Twin σ σ) P b s.closed.inputs (behind P c) (safe_behind c a σ s) (P.fetch c.pc))).1
