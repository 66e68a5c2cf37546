-- A run depends on no more of its fuel than its steps: `run P f` is `runs P` for every f at or above the steps left. Hence
-- the two laws of `runs` that the code is proved by, which don't speak of fuel.
use mathlib.Core.Bool.{cond}
use mathlib.Core.Path.{◌≡◌, refl, sym, ap, ◌∙◌}
use Prim.Native.Nat.{ℕ, zero, suc, ◌+◌, ◌≤◌, ◌<◌}
use native.Mathlib.Nat.{le_refl}
use native.Mathlib.Omega.{arith}
use lib.Dec.{leb, ltb}
use borrow.Author.Tests.{leb-true}
use Rattle.model.specs.State.{Control, Store, Program, flows_in, Outcome, Runner, jump, with_steps}
use Rattle.model.specs.declared.Account.{Account}
use Rattle.model.specs.Operands.{Request, blocks, Plan, faults, asks, plan}
use Rattle.model.specs.Effects.{Next, go, stop, fail, body_control, body_account, seal_outcome, act}
use Rattle.model.specs.Running.{perform, step, resume, pay, run, runs}
use Rattle.model.specs.declared.Ending.TheVariants.{Spent}
use Rattle.model.proofs.Tests.{cond_two}
use Rattle.model.proofs.Effects.{account_of, Effects, step_of}

-- no instruction gives steps back
abbrev Spends : Account → Account → Store → Type 0
Spends a b τ = b.steps ≤ a.steps

module _ (P : Program) where
  spends_effects : (R : Runner) (a : Account) (σ : Store) → Effects P R a σ (Spends a)
  spends_effects R a σ =
      record {
        keeps = le_refl a.steps;
        clears = λ b τ m g. g;
        raises_to = λ l e. le_refl a.steps;
        made = λ h l d e f lt. le_refl a.steps;
        written = λ p x d e f g. le_refl a.steps;
        blocked = λ c b n k e f d le x. omega arith;
      }

  pub step_spends : (R : Runner) (c : Control) (a : Account) (σ : Store) → (account_of (step P R c a σ)).steps ≤ a.steps
  step_spends R c a σ = step_of (Spends a) P R c a σ (spends_effects R a σ)

  -- runners that agree on runs of at most n steps
  abbrev Agree : ℕ → Runner → Runner → Type 0
  Agree n R Q = (c : Control) (a : Account) (σ : Store) → a.steps ≤ n → R c a σ ≡ Q c a σ

  act_agree : (R Q : Runner) (c r : Control) (a : Account) (σ : Store) → Agree a.steps R Q → (q : Request) → act P R c r a σ q ≡ act P Q c r a σ q
  unfolding act
  act_agree R Q c r a σ h (blocks b t n k) =
      cond_two (λ x y. x ≡ y) (flows_in P a.label b)
      (λ _. cond_two (λ x y. x ≡ y) (flows_in P b a.clearance)
      (λ _. cond_two (λ x y. x ≡ y) (ltb a.depth 8)
      (λ _. cond_two (λ x y. x ≡ y) (leb n a.steps)
      (λ e. ap (λ (o : Outcome). cond (leb (a.next + 1 + k) a.limit) (seal_outcome P r a b n k o) (fail 26 0 c a σ))
      (h (body_control t r) (body_account n k a) σ (leb-true n a.steps e)))
      (λ _. refl))
      (λ _. refl))
      (λ _. refl))
      (λ _. refl)
  act_agree R Q c r a σ h q = refl

  perform_agree : (R Q : Runner) (c : Control) (a : Account) (σ : Store) → Agree a.steps R Q → (q : Plan)
      → perform P R c a σ q ≡ perform P Q c a σ q
  unfolding perform
  perform_agree R Q c a σ h (faults code) = refl
  perform_agree R Q c a σ h (asks r q) = act_agree R Q c r a σ h q

  -- an instruction runs no body of more steps than it has
  step_agree : (R Q : Runner) (c : Control) (a : Account) (σ : Store) → Agree a.steps R Q → step P R c a σ ≡ step P Q c a σ
  unfolding step
  step_agree R Q c a σ h =
      perform_agree R Q (jump (P.after c.pc) c) a σ h (plan P a (jump (P.after c.pc) c) (P.fetch c.pc))

  resume_agree : (R Q : Runner) (n : ℕ) → Agree n R Q → (x : Next) → (account_of x).steps ≤ n → resume R x ≡ resume Q x
  unfolding resume
  resume_agree R Q n h (go c a σ) le = h c a σ le
  resume_agree R Q n h (stop e a σ) le = refl

  -- one step with either runner, and on with the same
  next_agree : (R Q : Runner) (c : Control) (a : Account) (σ : Store) → Agree a.steps R Q
      → resume R (step P R c a σ) ≡ resume Q (step P Q c a σ)
  next_agree R Q c a σ h =
      ap (resume R) (step_agree R Q c a σ h) ∙ resume_agree R Q a.steps h (step P Q c a σ) (step_spends Q c a σ)

  pay_agree : (m : ℕ) (a : Account) (σ : Store) (k j : Account → Outcome) → ((i : ℕ) → i < m → k (with_steps i a) ≡ j (with_steps i a))
      → pay m a σ k ≡ pay m a σ j
  unfolding pay
  pay_agree zero a σ k j h = refl
  pay_agree (suc m) a σ k j h = h m (omega arith)

  pay_zero : (m : ℕ) (a : Account) (σ : Store) (k : Account → Outcome) → m ≤ 0 → pay m a σ k ≡ record { ending = Spent; account = a; store = σ }
  unfolding pay
  pay_zero zero a σ k le = refl
  pay_zero (suc m) a σ k le = absurd (omega arith)

  fuels : (f g : ℕ) (c : Control) (a : Account) (σ : Store) → a.steps ≤ f → a.steps ≤ g → run P f c a σ ≡ run P g c a σ
  unfolding run
  fuels zero zero c a σ x y = refl
  fuels zero (suc g) c a σ x y = sym (pay_zero a.steps a σ (λ b. resume (run P g) (step P (run P g) c b σ)) x)
  fuels (suc f) zero c a σ x y = pay_zero a.steps a σ (λ b. resume (run P f) (step P (run P f) c b σ)) y
  fuels (suc f) (suc g) c a σ x y =
      pay_agree a.steps a σ (λ b. resume (run P f) (step P (run P f) c b σ)) (λ b. resume (run P g) (step P (run P g) c b σ))
      (λ i lt. next_agree (run P f) (run P g) c (with_steps i a) σ (λ d b τ le. fuels f g d b τ (omega arith) (omega arith)))

  -- Fuel at or above the steps left makes no difference.
  pub enough_fuel : (f : ℕ) (c : Control) (a : Account) (σ : Store) → a.steps ≤ f → run P f c a σ ≡ runs P c a σ
  unfolding runs
  enough_fuel f c a σ le = fuels f a.steps c a σ le (le_refl a.steps)

  -- ── the laws of `runs` ──

  -- with no step left
  pub runs_spent : (c : Control) (a : Account) (σ : Store) → a.steps ≡ 0 → runs P c a σ ≡ record { ending = Spent; account = a; store = σ }
  unfolding run
  runs_spent c a σ e = sym (enough_fuel 0 c a σ (omega arith))

  -- with a step left: one instruction, its step paid, the bodies of blocks run by `runs` too, and so on from there
  pub runs_next : (c : Control) (a : Account) (σ : Store) (n : ℕ) → a.steps ≡ suc n
      → runs P c a σ ≡ resume (runs P) (step P (runs P) c (with_steps n a) σ)
  unfolding run runs pay
  runs_next c a σ n e =
      ap (λ (i : ℕ). run P i c a σ) e ∙ ap (λ (i : ℕ). pay i a σ (λ b. resume (run P n) (step P (run P n) c b σ))) e
      ∙ next_agree (run P n) (runs P) c (with_steps n a) σ (λ d b τ le. enough_fuel n d b τ le)
