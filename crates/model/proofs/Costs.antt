-- What each instruction costs, exactly, in steps and places.
use Rattle.std.specs.Prelude.{None, Some}
use mathlib.Core.Bool.{Bool, true, false, cond, ◌&&◌, and_assoc}
use mathlib.Core.Path.{◌≡◌, refl}
use Prim.Native.Nat.{ℕ, suc, ◌+◌}
use native.Mathlib.Omega.{arith}
use lib.Dec.{leb, ltb}
use borrow.Author.Tests.{leb-true}
use Rattle.labels.specs.declared.Label.{Label}
use Rattle.model.specs.State.{Control, Store, Program, flows_in, Runner, at, jump, with_clearance, with_steps, Slot}
use Rattle.model.specs.declared.Account.{Account}
use Rattle.model.specs.Operands.{Request, none, ends, throws, raises, lowers, labels, opens, makes, writes, blocks, Plan, faults, asks, plan}
use Rattle.model.specs.Effects.{Next, fail, check_between, check_target, raised, open_slot, label_slot, write_slot, act}
use Rattle.model.specs.Running.{perform, step}
use Rattle.model.specs.declared.Datum.{Datum}
use Rattle.model.proofs.Tests.{cond_one, cond_two}
use Rattle.model.proofs.Effects.{account_of, fail_of, yield_of}

-- ── the statement ──

-- what an instruction costs beyond its own step
pub record Cost : Type 0 where
  pub steps : ℕ
  pub places : ℕ

abbrev pub costs : ℕ → ℕ → Cost
costs s p = record { steps = s; places = p }

-- with the instruction's own step
abbrev pub with_step : Cost → Cost
with_step x = costs (1 + x.steps) x.places

-- 23 and 24 of SEAL, NEW and BLOCK don't apply
abbrev pub target_ok : Program → Account → Label → Bool
target_ok P a l = flows_in P a.label l && flows_in P l a.clearance

-- A record made costs a place. A block entered costs n steps and k + 1 places, whatever its body does. All else, and
-- every fault, costs nothing more.
unfoldable pub cost : Program → Account → Request → Cost
cost P a (makes h l d) = cond (target_ok P a l && ltb a.next a.limit) (costs 0 1) (costs 0 0)
cost P a (blocks b t n k) =
    cond (target_ok P a b && (ltb a.depth 8 && (leb n a.steps && leb (a.next + 1 + k) a.limit))) (costs n (k + 1)) (costs 0 0)
cost P a q = costs 0 0

abbrev pub plan_cost : Program → Account → Plan → Cost
plan_cost P a (faults code) = costs 0 0
plan_cost P a (asks r q) = cost P a q

-- of the instruction that stands next
abbrev pub next_cost : Program → Control → Account → Cost
next_cost P c a = plan_cost P a (plan P a (jump (P.after c.pc) c) (P.fetch c.pc))

-- account b is account a with a cost paid; a run keeps its limit and its depth
pub record Paid (x : Cost) (a b : Account) : Type 0 where
  pub steps : b.steps + x.steps ≡ a.steps
  pub next : b.next ≡ a.next + x.places
  pub limit : b.limit ≡ a.limit
  pub depth : b.depth ≡ a.depth

-- ── the proof ──

paid_none : (a : Account) → Paid (costs 0 0) a a
paid_none a = record { steps = omega arith; next = omega arith; limit = refl; depth = refl }

-- a clearance costs nothing
paid_clears : (a b : Account) (m : Label) → Paid (costs 0 0) a b → Paid (costs 0 0) a (with_clearance m b)
paid_clears a b m p = record { steps = p.steps; next = p.next; limit = p.limit; depth = p.depth }

-- the first of the tests of a cost, which are in the order of the checks
first_test : (G : Cost → Next → Type 0) (s t : Bool) (u : Cost) {x y : Next} → (s ≡ true → G (cond t u (costs 0 0)) x)
    → (s ≡ false → G (costs 0 0) y) → G (cond (s && t) u (costs 0 0)) (cond s x y)
first_test G true t u f g = f refl
first_test G false t u f g = g refl

module _ (P : Program) (R : Runner) (c : Control) (a : Account) (σ : Store) where
  abbrev Costs : Cost → Next → Type 0
  Costs x y = Paid x a (account_of y)

  faulted : (code n : ℕ) → Costs (costs 0 0) (fail code n c a σ)
  faulted code n = fail_of (λ b _. Paid (costs 0 0) a b) (λ b _ m p. paid_clears a b m p) code n c a σ (paid_none a)

  target_cost : (l : Label) (t : Bool) (u : Cost) (x : Next) → Costs (cond t u (costs 0 0)) x
      → Costs (cond (target_ok P a l && t) u (costs 0 0)) (check_target P l c a σ x)
  target_cost l t u x h =
      rw (and_assoc (flows_in P a.label l) (flows_in P l a.clearance) t)
      (first_test Costs (flows_in P a.label l) (flows_in P l a.clearance && t) u
      (λ _. first_test Costs (flows_in P l a.clearance) t u (λ _. h) (λ _. faulted 24 _))
      (λ _. faulted 23 _))

  between_free : (first second : ℕ) (l : Label) (x : Next) → Costs (costs 0 0) x → Costs (costs 0 0) (check_between P first second l c a σ x)
  between_free first second l x h =
      cond_one (Costs (costs 0 0)) (flows_in P a.label l)
      (λ _. cond_one (Costs (costs 0 0)) (flows_in P l a.clearance) (λ _. h) (λ _. faulted second _))
      (λ _. faulted first _)

  open_cost : (r : Control) (x : Slot) → Costs (costs 0 0) (open_slot P c r a σ x)
  unfolding open_slot
  open_cost r None = faulted 33 0
  open_cost r (Some x) =
      cond_one (Costs (costs 0 0)) (flows_in P (P.join a.label x.label) a.clearance)
      (λ _. yield_of (λ b _. Paid (costs 0 0) a b) (λ b _ m p. paid_clears a b m p) c r (raised P x.label a) σ x.contents
      (record { steps = omega arith; next = omega arith; limit = refl; depth = refl }))
      (λ _. faulted 24 _)

  label_cost : (r : Control) (x : Slot) → Costs (costs 0 0) (label_slot c r a σ x)
  unfolding label_slot
  label_cost r None = faulted 33 0
  label_cost r (Some x) = paid_none a

  write_cost : (r : Control) (p : ℕ) (d : Datum) (x : Slot) → Costs (costs 0 0) (write_slot P c r a σ p d x)
  unfolding write_slot
  write_cost r p d None = faulted 33 0
  write_cost r p d (Some x) = between_free 23 24 x.label _ (paid_none a)

  act_cost : (r : Control) (q : Request) → Costs (cost P a q) (act P R c r a σ q)
  unfolding act cost
  act_cost r none = paid_none a
  act_cost r (ends d) = paid_none a
  act_cost r (throws n) = faulted 30 n
  act_cost r (raises l) =
      cond_one (Costs (costs 0 0)) (flows_in P (P.join a.label l) a.clearance)
      (λ _. record { steps = omega arith; next = omega arith; limit = refl; depth = refl }) (λ _. faulted 24 _)
  act_cost r (lowers l) =
      between_free 25 25 l _ (record { steps = omega arith; next = omega arith; limit = refl; depth = refl })
  act_cost r (labels p) = label_cost r (at σ p)
  act_cost r (opens p) = open_cost r (at σ p)
  act_cost r (makes h l d) =
      target_cost l (ltb a.next a.limit) (costs 0 1) _
      (cond_two Costs (ltb a.next a.limit)
      (λ _. record { steps = omega arith; next = refl; limit = refl; depth = refl }) (λ _. faulted 26 0))
  act_cost r (writes p d) = write_cost r p d (at σ p)
  act_cost r (blocks b t n k) =
      target_cost b (ltb a.depth 8 && (leb n a.steps && leb (a.next + 1 + k) a.limit)) (costs n (k + 1)) _
      (first_test Costs (ltb a.depth 8) (leb n a.steps && leb (a.next + 1 + k) a.limit) (costs n (k + 1))
      (λ _. first_test Costs (leb n a.steps) (leb (a.next + 1 + k) a.limit) (costs n (k + 1))
      (λ e. cond_two Costs (leb (a.next + 1 + k) a.limit)
      (λ _. record { steps = omega (arith, leb-true n a.steps e); next = omega arith; limit = refl; depth = refl })
      (λ _. faulted 26 0))
      (λ _. faulted 27 0))
      (λ _. faulted 28 0))

  perform_cost : (q : Plan) → Costs (plan_cost P a q) (perform P R c a σ q)
  unfolding perform
  perform_cost (faults code) = faulted code 0
  perform_cost (asks r q) = act_cost r q

-- An instruction, its own step paid, costs what `next_cost` says, whatever the runner of blocks does.
pub step_cost : (P : Program) (R : Runner) (c : Control) (a : Account) (σ : Store) → Paid (next_cost P c a) a (account_of (step P R c a σ))
unfolding step
step_cost P R c a σ = perform_cost P R (jump (P.after c.pc) c) a σ (plan P a (jump (P.after c.pc) c) (P.fetch c.pc))

-- with its own step
pub instruction_cost : (P : Program) (R : Runner) (c : Control) (a : Account) (σ : Store) (n : ℕ) → a.steps ≡ suc n
    → Paid (with_step (next_cost P c (with_steps n a))) a (account_of (step P R c (with_steps n a) σ))
instruction_cost P R c a σ n e =
    let p = step_cost P R c (with_steps n a) σ in
    record { steps = omega (arith, p.steps); next = p.next; limit = p.limit; depth = p.depth }
