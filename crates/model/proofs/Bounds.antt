-- A run keeps within its steps and its allotment, and what it has used is what its instructions cost, one by one.
use mathlib.Core.List.{List, [], ◌∷◌}
use mathlib.Core.Path.{◌≡◌, refl, ◌∙◌}
use Prim.Native.Nat.{ℕ, zero, suc, ◌+◌, ◌≤◌}
use native.Mathlib.Nat.{le_refl}
use native.Mathlib.Omega.{arith}
use lib.ListN.{length}
use Rattle.model.specs.State.{Control, Store, Program, with_steps}
use Rattle.model.specs.declared.Account.{Account}
use Rattle.model.specs.Effects.{Next, go, stop}
use Rattle.model.specs.Running.{step, resume, pay, run, runs}
use Rattle.model.proofs.Effects.{account_of, Runs, run_of}
use Rattle.model.proofs.Costs.{Cost, with_step, next_cost, Paid, instruction_cost}

-- ── bounds ──

-- from a run's start to its end
pub record Within (a b : Account) : Type 0 where
  pub steps : b.steps ≤ a.steps
  pub next : a.next ≤ b.next
  pub allotted : b.next ≤ a.limit
  pub limit : b.limit ≡ a.limit
  pub depth : b.depth ≡ a.depth

within_same : (a : Account) → a.next ≤ a.limit → Within a a
within_same a i = record { steps = le_refl a.steps; next = le_refl a.next; allotted = i; limit = refl; depth = refl }

within_runs : (P : Program) → Runs P (λ a σ. a.next ≤ a.limit) (λ a σ b τ. Within a b)
within_runs P =
    record {
      holds = λ a b σ τ k. omega (arith, k.allotted, k.limit);
      same = λ a σ i. within_same a i;
      chain = λ a b c σ τ ρ k m. record {
        steps = omega (arith, k.steps, m.steps);
        next = omega (arith, k.next, m.next);
        allotted = omega (arith, k.limit, m.allotted);
        limit = m.limit ∙ k.limit;
        depth = m.depth ∙ k.depth;
      };
      pays = λ a σ n i e. record { steps = omega arith; next = le_refl a.next; allotted = i; limit = refl; depth = refl };
      effects = λ R RW a σ i. record {
        keeps = within_same a i;
        clears = λ b τ m k. record { steps = k.steps; next = k.next; allotted = k.allotted; limit = k.limit; depth = k.depth };
        raises_to = λ l e. record { steps = le_refl a.steps; next = le_refl a.next; allotted = i; limit = refl; depth = refl };
        made = λ h l d e f lt. record { steps = le_refl a.steps; next = omega arith; allotted = omega arith; limit = refl; depth = refl };
        written = λ p x d e f g. within_same a i;
        blocked = λ c b n k e f d le x. record { steps = omega arith; next = omega arith; allotted = le; limit = refl; depth = refl };
      };
    }

-- A run takes at most its steps, and its next place never passes its allotment.
pub runs_within : (P : Program) (c : Control) (a : Account) (σ : Store) → a.next ≤ a.limit
    → Within a (runs P c a σ).account
unfolding runs
runs_within P c a σ i = run_of P (λ a σ. a.next ≤ a.limit) (λ a σ b τ. Within a b) (within_runs P) a.steps c a σ i

-- ── what a run pays, instruction by instruction ──

-- the steps and the places of some costs, added up
unfoldable pub steps_of : List Cost → ℕ
steps_of [] = 0
steps_of (x ∷ xs) = x.steps + steps_of xs

unfoldable pub places_of : List Cost → ℕ
places_of [] = 0
places_of (x ∷ xs) = x.places + places_of xs

-- as `resume` and `pay` go on
abbrev onward : (Control → Account → Store → List Cost) → Next → List Cost
onward u (go c a σ) = u c a σ
onward u (stop e a σ) = []

abbrev while_left : ℕ → (ℕ → List Cost) → List Cost
while_left zero k = []
while_left (suc n) k = k n

-- What the run pays for each instruction from here on, one by one: 1 step, and what it costs beyond. f bounds their
-- number, as in `run`.
unfoldable pub payments : Program → ℕ → Control → Account → Store → List Cost
payments P zero c a σ = []
payments P (suc f) c a σ =
    while_left a.steps (λ n. with_step (next_cost P c (with_steps n a)) ∷ onward (payments P f) (step P (run P f) c (with_steps n a) σ))

-- account b is account a with these costs paid, and nothing else
pub record Settled (xs : List Cost) (a b : Account) : Type 0 where
  pub steps : b.steps + steps_of xs ≡ a.steps
  pub next : b.next ≡ a.next + places_of xs

module _ (P : Program) where
  settle_on : (f : ℕ) (x : Cost) (a : Account) (y : Next) → ((c : Control) (a : Account) (σ : Store) → Settled (payments P f c a σ) a (run P f c a σ).account)
      → Paid x a (account_of y) → Settled (x ∷ onward (payments P f) y) a (resume (run P f) y).account
  unfolding resume steps_of places_of
  settle_on f x a (go c d σ) h p =
      let r = h c d σ in
      record { steps = omega (arith, r.steps, p.steps); next = omega (arith, r.next, p.next) }
  settle_on f x a (stop e d σ) h p = record { steps = omega (arith, p.steps); next = omega (arith, p.next) }

  run_settled : (f : ℕ) (c : Control) (a : Account) (σ : Store) → Settled (payments P f c a σ) a (run P f c a σ).account
  unfolding run payments pay steps_of places_of
  run_settled zero c a σ = record { steps = omega arith; next = omega arith }
  run_settled (suc f) c a σ = left (run_settled f) a.steps refl
    where
      left : ((c : Control) (a : Account) (σ : Store) → Settled (payments P f c a σ) a (run P f c a σ).account) → (m : ℕ) → a.steps ≡ m
          → Settled (while_left m (λ n. with_step (next_cost P c (with_steps n a)) ∷ onward (payments P f) (step P (run P f) c (with_steps n a) σ))) a
          (pay m a σ (λ b. resume (run P f) (step P (run P f) c b σ))).account
      left h zero e = record { steps = omega arith; next = omega arith }
      left h (suc n) e =
          settle_on f (with_step (next_cost P c (with_steps n a))) a (step P (run P f) c (with_steps n a) σ) h (instruction_cost P (run P f) c a σ n e)

  -- The steps that a run has used and the places that it has taken are those of its instructions, paid one by one.
  pub runs_used : (c : Control) (a : Account) (σ : Store) → Settled (payments P a.steps c a σ) a (runs P c a σ).account
  unfolding runs
  runs_used c a σ = run_settled a.steps c a σ

  -- Each takes a step at least, so a run of n steps takes at most n instructions.
  pub payments_least : (f : ℕ) (c : Control) (a : Account) (σ : Store) → length (payments P f c a σ) ≤ steps_of (payments P f c a σ)
  unfolding payments steps_of
  payments_least zero c a σ = omega arith
  payments_least (suc f) c a σ = left (payments_least f) a.steps
    where
      onward_least : ((c : Control) (a : Account) (σ : Store) → length (payments P f c a σ) ≤ steps_of (payments P f c a σ)) → (y : Next)
          → length (onward (payments P f) y) ≤ steps_of (onward (payments P f) y)
      onward_least h (go c a σ) = h c a σ
      onward_least h (stop e a σ) = omega arith

      left : ((c : Control) (a : Account) (σ : Store) → length (payments P f c a σ) ≤ steps_of (payments P f c a σ)) → (m : ℕ)
          → length (while_left m (λ n. with_step (next_cost P c (with_steps n a)) ∷ onward (payments P f) (step P (run P f) c (with_steps n a) σ)))
          ≤ steps_of (while_left m (λ n. with_step (next_cost P c (with_steps n a)) ∷ onward (payments P f) (step P (run P f) c (with_steps n a) σ)))
      left h zero = omega arith
      left h (suc n) = omega (arith, onward_least h (step P (run P f) c (with_steps n a) σ))
