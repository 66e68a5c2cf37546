-- No run uses more than its code's quote, whatever it is run with.
use mathlib.Core.Bool.{true}
use mathlib.Core.List.{[]}
use mathlib.Core.Path.{◌≡◌, refl}
use Prim.Native.Nat.{ℕ, zero, suc, ◌+◌, ◌-◌, ◌≤◌}
use native.Mathlib.Omega.{arith}
use Rattle.model.specs.State.{Control, Store, Program, with_steps}
use Rattle.model.specs.declared.Account.{Account}
use Rattle.model.specs.Effects.{Next, go, stop}
use Rattle.model.specs.Running.{step, resume, pay, run, runs}
use Rattle.model.proofs.Effects.{account_of}
use Rattle.model.proofs.Costs.{Cost, with_step, next_cost, Paid, instruction_cost}
use Rattle.formulas.specs.Lists.{among}
use Rattle.quote.specs.Quoting.{Node}
use Rattle.quote.proofs.Follows.{NextFollows, node_in, step_follows, step_costs}

-- Figures at each place of some code that no instruction on a way through it exceeds: those at a place are at least what the
-- instruction there costs, with the figures at any of its successors.
pub record Bounds (x : ℕ → Node) (N : ℕ → Type 0) (s p : ℕ → ℕ) : Type 0 where
  pub ahead : (i : ℕ) → N i → (x i).ahead ≡ true
  pub some : (i : ℕ) → N i → 1 ≤ (x i).steps
  pub own : (i : ℕ) → N i → ((x i).steps ≤ s i) × ((x i).places ≤ p i)
  pub onward : (i j : ℕ) → N i → among j (x i).successors ≡ true → N j × ((x i).steps + s j ≤ s i) × ((x i).places + p j ≤ p i)

-- from account a to account b a run has used at most so many steps, and taken at most so many places
pub record Uses (steps places : ℕ) (a b : Account) : Type 0 where
  pub steps_used : a.steps - b.steps ≤ steps
  pub places_taken : b.next - a.next ≤ places

module _ (P : Program) (N : ℕ → Type 0) (s p : ℕ → ℕ) (B : Bounds (node_in P) N s p) where
  abbrev Within : ℕ → Type 0
  Within f = (c : Control) (a : Account) (σ : Store) → N c.pc → c.frames ≡ []
      → (a.steps ≤ (run P f c a σ).account.steps + s c.pc) × ((run P f c a σ).account.next ≤ a.next + p c.pc)

  resumed : (f i : ℕ) (x : Cost) (a : Account) (y : Next) → Within f → N i → (x.steps ≤ (node_in P i).steps) × (x.places ≤ (node_in P i).places)
      → Paid x a (account_of y) → NextFollows (node_in P i).successors y
      → (a.steps ≤ (resume (run P f) y).account.steps + s i) × ((resume (run P f) y).account.next ≤ a.next + p i)
  unfolding resume
  resumed f i x a (go d b τ) w h m q n =
      let o = B.onward i d.pc h n.1 in
      let r = w d b τ o.0 n.0 in
      (omega (arith, r.0, o.1, m.0, q.steps), omega (arith, r.1, o.2, m.1, q.next))
  resumed f i x a (stop e b τ) w h m q n =
      let o = B.own i h in
      (omega (arith, o.0, m.0, q.steps), omega (arith, o.1, m.1, q.next))

  run_within : (f : ℕ) → Within f
  unfolding run pay
  run_within zero c a σ h g = (omega arith, omega arith)
  run_within (suc f) c a σ h g = left (run_within f) a.steps refl
    where
      left : Within f → (m : ℕ) → a.steps ≡ m
          → (a.steps ≤ (pay m a σ (λ b. resume (run P f) (step P (run P f) c b σ))).account.steps + s c.pc)
          × ((pay m a σ (λ b. resume (run P f) (step P (run P f) c b σ))).account.next ≤ a.next + p c.pc)
      left w zero e = (omega arith, omega arith)
      left w (suc n) e =
          let one = step_costs P c g (with_steps n a) (B.ahead c.pc h) (B.some c.pc h) in
          resumed f c.pc (with_step (next_cost P c (with_steps n a))) a (step P (run P f) c (with_steps n a) σ) w h one
          (instruction_cost P (run P f) c a σ n e)
          (step_follows P c g (with_steps n a) (B.ahead c.pc h) (run P f) σ)

  -- A run that starts at one of the places without frames uses at most the figures there.
  pub runs_use : (c : Control) (a : Account) (σ : Store) → N c.pc → c.frames ≡ [] → Uses (s c.pc) (p c.pc) a (runs P c a σ).account
  unfolding runs
  runs_use c a σ h g =
      let w = run_within a.steps c a σ h g in
      record { steps_used = omega (arith, w.0); places_taken = omega (arith, w.1) }
