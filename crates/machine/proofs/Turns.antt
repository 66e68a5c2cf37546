-- How the code's instructions meet the definition, one after the other.
use Rattle.std.specs.Prelude.{Option, None, Some, is_none}
use mathlib.Core.Bool.{Bool, true, false, cond}
use mathlib.Core.Path.{◌≡◌, refl, sym, ap, subst, ◌∙◌}
use mathlib.Core.List.{List}
use Prim.Native.Nat.{ℕ, zero, suc, ◌+◌, ◌-◌, min, ◌≤◌, ◌<◌}
use native.Mathlib.Omega.{arith}
use native.Mathlib.Nat.{le_refl}
use lib.Dec.{ltb}
use borrow.Author.Tests.{ltb-true, ltb-false, lt-ltb}
use lib.ListN.{length}
use Rattle.model.specs.declared.Value.{Value}
use Rattle.model.specs.declared.Ending.{Ending}
use Rattle.model.specs.declared.Ending.TheVariants.{Spent}
use Rattle.model.specs.State.{Control, Store, Outcome, Program, with_steps}
use Rattle.model.specs.declared.Account.{Account}
use Rattle.model.specs.Decoding.{fetch, after}
use Rattle.model.specs.Operands.{plan}
use Rattle.model.specs.Effects.{Next, go, stop, body_account}
use Rattle.model.specs.Running.{perform, step, resume, runs}
use Rattle.model.proofs.Effects.{account_of}
use Rattle.model.proofs.Fuel.{step_spends, runs_spent, runs_next}
use Rattle.model.proofs.Tests.{cond_one}
use Rattle.decode.specs.declared.Decoded.{Decoded}
use Rattle.operands.specs.declared.Effect.{Effect}
use Rattle.operands.specs.declared.Decision.{Decision}
use Rattle.operands.specs.Program.{program}
use Rattle.effects.proofs.Taking.{FitsEffect, Good, Cleared, settle}
use Rattle.effects.proofs.Bridge.{decision_performs}
use Rattle.machine.specs.declared.State.{State}
use Rattle.machine.specs.State.{Ok, Live, control, account, next_on, next_of, ending_of, outcome_of, Ran, datum_at, popped, charged}
use Rattle.machine.specs.Steps.{meant, Finishes, begun, fresh}
use Rattle.machine.specs.declared.program.Program.{Program as Given}
use Rattle.machine.specs.Turns.{ready_of, decided, turns}
use Rattle.machine.proofs.Methods.{jumped, ok_popped, control_popped, next_live, stack_length, frames_length, bounded, tops}

-- ── one instruction ──

-- one instruction of a state, its step paid
abbrev pub step_of : Program → State → Store → Next
step_of P s σ = step P (runs P) (control s) (account s) σ

-- a decision is good, and an effect is settled, in state s: f and g are where the two values on top lie
abbrev pub GoodIn : Given → State → State → Store → ℕ → ℕ → Decision → Next → Type 0
GoodIn G s r σ f g d n =
    Good G.code.now G.labels.now G.records.now (runs (meant G)) (control r) (account s) σ (datum_at s f) (datum_at s g) d n

abbrev pub settled_in : Given → State → State → Store → ℕ → ℕ → Effect → Next
settled_in G s r σ f g e =
    settle G.code.now G.labels.now G.records.now (runs (meant G)) (control r) (account s) σ (datum_at s f) (datum_at s g) e

-- what is decided of an instruction, from the values that the code reads, is good: s has its step paid
pub found : (G : Given) (s : State) (σ : Store) (q : Decoded) (f g : ℕ) (d : Decision) → Ok s → f ≡ min s.top 31 → g ≡ min (s.top + 1) 31
    → q ≡ record { instr = fetch G.code.now s.pc; after = after G.code.now s.pc }
    → d ≡ decided q.instr f g G.records.now s σ
    → GoodIn G s (jumped q.after s) σ f g d (step_of (meant G) s σ)
unfolding step program
found G s σ q f g d o ef eg eq ed =
    let P = meant G in
    let s1 : State = jumped q.after s in
    let h : 32 - s.top ≡ length (control s1).stack = omega (arith, stack_length s o) in
    let n : 8 - s.newest ≡ length (control s1).frames = omega (arith, frames_length s o) in
    let w =
    decision_performs G.code.now G.labels.now G.records.now (runs P) (control s1) (account s1) σ (bounded s1 o) _ _
    (tops s1 f g o ef eg) q.instr in
    let e =
    ap (λ (x : Decoded). perform P (runs P) (control (jumped x.after s)) (account s) σ
    (plan P (account s) (control (jumped x.after s)) x.instr)) eq in
    rw (ed, h, n) (record { there = w.there; fits = w.fits; does = w.does ∙ e })

-- the same of r, whose operands are dropped: f and g are where the two on top lie
pub record Applies (G : Given) (r : State) (σ : Store) (f g : ℕ) (e : Effect) (n : Next) : Type 0 where
  pub ok : Ok r
  pub live : Live r
  pub fits : FitsEffect (control r) (account r) e
  pub does : settled_in G r r σ f g e ≡ n

pub takes_there : (s : State) (k : ℕ) → Ok s → k ≤ length (control s).stack → s.top + k ≤ 32
takes_there s k o h = omega (arith, stack_length s o, h)

pub dropped : (G : Given) (s r : State) (σ : Store) (f g : ℕ) (d : Decision) (n : Next) → Ok s → Live s
    → GoodIn G s s σ f g d n → r ≡ popped d.takes s → Applies G r σ f g d.effect n
dropped G s r σ f g d n o l w e =
    let q = control_popped d.takes s in
    rw e
    (record {
      ok = ok_popped d.takes s o (takes_there s d.takes o w.there);
      live = l;
      fits = subst (λ (c : Control). FitsEffect c (account s) d.effect) (sym q) w.fits;
      does = ap (λ (c : Control). settle G.code.now G.labels.now G.records.now (runs (meant G)) c (account s) σ (datum_at s f) (datum_at s g) d.effect) q
          ∙ w.does;
    })

-- an effect that is applied is the step
pub taken_over : (G : Given) (s : State) (σ τ : Store) (f g : ℕ) (e h : Effect) (r : State) (n : Next) → Applies G s σ f g e n → e ≡ h
    → Ran r τ (settled_in G s s σ f g h) → Ran r τ n
taken_over G s σ τ f g e h r n w q ran = record { ok = ran.ok; eq = ran.eq ∙ ap (settled_in G s s σ f g) (sym q) ∙ w.does }

runs_step : (P : Program) (c : Control) (a : Account) (σ : Store) → 0 < a.steps → runs P c a σ ≡ resume (runs P) (step P (runs P) c (with_steps (a.steps - 1) a) σ)
runs_step P c a σ h = runs_next P c a σ (a.steps - 1) (omega arith)

next_account : (e : Option Ending) (c : Control) (a : Account) (σ : Store) → account_of (next_on e c a σ) ≡ a
next_account None c a σ = refl
next_account (Some e) c a σ = refl

steps_of : (r : State) (τ : Store) (x : Next) → next_of r τ ≡ x → r.steps ≡ (account_of x).steps
steps_of r τ x e = ap (λ (a : Account). a.steps) (sym (next_account r.ending (control r) (account r) τ)) ∙ ap (λ (y : Next). (account_of y).steps) e

-- ── one turn after the other ──

module _ (P : Program) where
  -- the turn that is taken first
  turns_go : (n : ℕ) (c : Control) (a : Account) (σ : Store) → 0 < a.steps
      → turns P (suc n) (go c a σ) ≡ turns P n (step P (runs P) c (with_steps (a.steps - 1) a) σ)
  turns_go n c a σ h = rw (lt-ltb 0 a.steps h)

  -- one turn is the definition's step
  turns_one : (c : Control) (a : Account) (σ : Store) → 0 < a.steps
      → turns P 1 (go c a σ) ≡ step P (runs P) c (with_steps (a.steps - 1) a) σ
  turns_one c a σ h = turns_go 0 c a σ h

  pub record Ready (s : State) : Type 0 where
    pub live : Live s
    pub some : 0 < s.steps

  pub is_ready : (s : State) → ready_of s ≡ true → Ready s
  is_ready s h = test s.ending h refl where
    test : (e : Option Ending) → cond (is_none e) (ltb 0 s.steps) false ≡ true → s.ending ≡ e → Ready s
    test None h e = record { live = e; some = ltb-true 0 s.steps h }
    test (Some x) h e = absurd (let z : ◌≡◌ {A = ℕ} 0 1 = cc in omega arith)

  turns_first : (m : ℕ) (s : State) (σ : Store) → Ready s → turns P (m + 1) (next_of s σ) ≡ turns P m (step_of P (charged 1 s) σ)
  turns_first m s σ h =
      let e : m + 1 ≡ suc m = omega arith in
      ap (λ (k : ℕ). turns P k (next_of s σ)) e ∙ ap (turns P (suc m)) (next_live s h.live σ) ∙ turns_go m (control s) (account s) σ h.some

  -- a turn of the code: s is s0 with the step paid
  pub record Turn (s0 s : State) : Type 0 where
    pub at : Ready s0
    pub paid : s ≡ charged 1 s0
    pub ok : Ok s
    pub live : Live s

  pub turn : (s0 s : State) (b : Bool) → Ok s0 → b ≡ ready_of s0 → b ≡ true → s ≡ charged 1 s0 → Turn s0 s
  turn s0 s b ok eb nb es =
      let r : Ready s0 = is_ready s0 (sym eb ∙ nb) in
      record { at = r; paid = es; ok = rw es ok; live = rw es r.live }

  -- a turn is through, r with the records τ being what it leaves, of m turns behind it from s0 with the records σ
  pub record Through (m : ℕ) (s0 r : State) (σ τ : Store) : Type 0 where
    pub ok : Ok r
    pub spends : r.steps ≤ s0.steps
    pub same : turns P m (next_of r τ) ≡ turns P (m + 1) (next_of s0 σ)

  pub through : (m : ℕ) (s0 s r : State) (σ τ : Store) → Turn s0 s → Ran r τ (step_of P s σ) → Through m s0 r σ τ
  through m s0 s r σ τ w ran =
      let e : next_of r τ ≡ step_of P (charged 1 s0) σ = ran.eq ∙ ap (λ (x : State). step_of P x σ) w.paid in
      record {
        ok = ran.ok;
        spends = omega (arith, steps_of r τ _ e, step_spends P (runs P) (control s0) (account (charged 1 s0)) σ);
        same = ap (turns P m) e ∙ sym (turns_first m s0 σ w.at);
      }

  -- what the code's `step` comes to where it is let take one instruction: the definition's step
  pub one_step : (s r : State) (σ τ : Store) → Live s → 0 < s.steps → Ran r τ (turns P 1 (next_of s σ)) → next_of r τ ≡ step_of P (charged 1 s) σ
  one_step s r σ τ l p ran = ran.eq ∙ ap (turns P 1) (next_live s l σ) ∙ turns_one (control s) (account s) σ p

  -- ── what a run makes of them ──

  -- a run that no step is left to is spent
  abbrev spent : Next → Outcome
  spent (go c a σ) = record { ending = Spent; account = a; store = σ }
  spent (stop e a σ) = record { ending = e; account = a; store = σ }

  -- as many turns as there are steps left are the run
  turns_run : (n : ℕ) (x : Next) → (account_of x).steps ≤ n → spent (turns P n x) ≡ resume (runs P) x
  unfolding resume
  turns_run zero (stop e a σ) h = refl
  turns_run zero (go c a σ) h = sym (runs_spent P c a σ (omega (arith, h)))
  turns_run (suc n) (stop e a σ) h = refl
  turns_run (suc n) (go c a σ) h =
      cond_one (λ (y : Next). spent y ≡ runs P c a σ) (ltb 0 a.steps)
      (λ e. let b : Account = with_steps (a.steps - 1) a in
      let p : 0 < a.steps = ltb-true 0 a.steps e in
      turns_run n (step P (runs P) c b σ) (omega (arith, h, p, step_spends P (runs P) c b σ))
      ∙ sym (runs_step P c a σ p))
      (λ e. sym (runs_spent P c a σ (omega (arith, ltb-false 0 a.steps e))))

  spent_on : (e : Option Ending) (c : Control) (a : Account) (σ : Store) → spent (next_on e c a σ) ≡ record { ending = ending_of e; account = a; store = σ }
  spent_on None c a σ = refl
  spent_on (Some e) c a σ = refl

  pub finishes : (pc : ℕ) (locals : List Value) (a : Account) (r : State) (e : Ending) (σ τ : Store) → e ≡ ending_of r.ending
      → Ran r τ (turns P a.steps (next_of (fresh pc locals a) σ))
      → Finishes (record { ending = e; label = r.label; clearance = r.clearance; steps = r.steps; next = r.next }) τ (runs P (begun pc locals) a σ)
  unfolding resume
  finishes pc locals a r e σ τ ee ran =
      let o : Outcome = runs P (begun pc locals) a σ in
      let q : o ≡ outcome_of r τ =
      sym (turns_run a.steps (go (begun pc locals) a σ) (le_refl a.steps)) ∙ ap spent (sym ran.eq) ∙ spent_on r.ending (control r) (account r) τ in
      record {
        ending = ap (λ (x : Outcome). x.ending) q ∙ sym ee;
        label = ap (λ (x : Outcome). x.account.label) q;
        clearance = ap (λ (x : Outcome). x.account.clearance) q;
        steps = ap (λ (x : Outcome). x.account.steps) q;
        next = ap (λ (x : Outcome). x.account.next) q;
        store = ap (λ (x : Outcome). x.store) q;
      }

-- ── a body ──

-- the account that a body starts with
pub record Inside (n : ℕ) (b : Account) : Type 0 where
  pub time : b.steps ≡ n
  pub used : b.next ≤ b.limit
  pub most : b.limit ≤ 256

pub inside : (s : State) (n j : ℕ) (b : Account) → Ok s → Cleared (control s) (account s) n j → b ≡ body_account n j (account s) → Inside n b
inside s n j b o c e = let m = o.places.most in let r = c.room in rw e (record { time = refl; used = omega arith; most = omega arith })
