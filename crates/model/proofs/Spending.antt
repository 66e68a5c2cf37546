-- A run ends spent only where no step is left: an instruction that stops it gives a result or a fault.
use Rattle.std.specs.Prelude.{None, Some}
use mathlib.Core.Bool.{Bool, true, false, true≢false}
use mathlib.Core.List.{List, [], ◌∷◌}
use mathlib.Core.Path.{◌≡◌, refl, sym, ap, ◌∙◌}
use Prim.Native.Nat.{ℕ, zero, suc, ◌+◌, ◌≤◌}
use native.Mathlib.Nat.{le_refl}
use native.Mathlib.Omega.{arith}
use lib.Dec.{leb, ltb}
use Rattle.labels.specs.declared.Label.{Label}
use Rattle.model.specs.State.{Control, Store, Program, flows_in, Runner, at, jump, with_steps, Slot}
use Rattle.model.specs.declared.Account.{Account}
use Rattle.model.specs.Operands.{Request, none, ends, throws, raises, lowers, labels, opens, makes, writes, blocks, Plan, faults, asks, plan}
use Rattle.model.specs.Effects.{Next, go, stop, fail_to, fail, check, check_flow, check_between, raised, yield, open_slot, label_slot, write_slot, act}
use Rattle.model.specs.Running.{perform, step, resume, pay, run, runs}
use Rattle.model.specs.declared.Datum.{Datum}
use Rattle.model.specs.declared.Contents.{Contents}
use Rattle.model.specs.declared.Contents.TheVariants.{Value as Holds, Fault}
use Rattle.model.specs.declared.Frame.{Frame}
use Rattle.model.specs.declared.Ending.{Ending}
use Rattle.model.specs.declared.Ending.TheVariants.{Result, Fault as Faulted, Spent}
use Rattle.model.proofs.Tests.{cond_one}
use Rattle.model.proofs.Effects.{account_of}
use Rattle.model.proofs.Fuel.{step_spends}

abbrev is_spent : Ending → Bool
is_spent (Result d) = false
is_spent (Faulted code n) = false
is_spent Spent = true

abbrev stops_spent : Next → Bool
stops_spent (go c a σ) = false
stops_spent (stop e a σ) = is_spent e

abbrev Sound : Next → Type 0
Sound x = stops_spent x ≡ false

-- ── one instruction ──

module _ (P : Program) (R : Runner) (σ : Store) where
  fails : (code n : ℕ) (c : Control) (a : Account) → Sound (fail code n c a σ)
  unfolding fail_to
  fails code n c a = frames c.frames
    where
      frames : (fs : List Frame) → Sound (fail_to fs code n c a σ)
      frames [] = refl
      frames (f ∷ fs) = refl

  yields : (c r : Control) (a : Account) (x : Contents) → Sound (yield c r a σ x)
  unfolding yield
  yields c r a (Holds d) = refl
  yields c r a (Fault code n) = fails code n c a

  module _ (c : Control) (a : Account) where
    checked : (t : Bool) (code n : ℕ) (x : Next) → Sound x → Sound (check t code n c a σ x)
    checked t code n x h = cond_one Sound t (λ _. h) (λ _. fails code n c a)

    flowing : (l m : Label) (code : ℕ) (x : Next) → Sound x → Sound (check_flow P l m code c a σ x)
    flowing l m code x h = checked (flows_in P l m) code _ x h

    between : (first second : ℕ) (l : Label) (x : Next) → Sound x → Sound (check_between P first second l c a σ x)
    between first second l x h = flowing a.label l first _ (flowing l a.clearance second x h)

    opened : (r : Control) (x : Slot) → Sound (open_slot P c r a σ x)
    unfolding open_slot
    opened r None = fails 33 0 c a
    opened r (Some x) = flowing (P.join a.label x.label) a.clearance 24 _ (yields c r (raised P x.label a) x.contents)

    labelled : (r : Control) (x : Slot) → Sound (label_slot c r a σ x)
    unfolding label_slot
    labelled r None = fails 33 0 c a
    labelled r (Some x) = refl

    written : (r : Control) (p : ℕ) (d : Datum) (x : Slot) → Sound (write_slot P c r a σ p d x)
    unfolding write_slot
    written r p d None = fails 33 0 c a
    written r p d (Some x) = between 23 24 x.label _ refl

    acts : (r : Control) (q : Request) → Sound (act P R c r a σ q)
    unfolding act
    acts r none = refl
    acts r (ends d) = refl
    acts r (throws n) = fails 30 n c a
    acts r (raises l) = flowing (P.join a.label l) a.clearance 24 _ refl
    acts r (lowers l) = between 25 25 l _ refl
    acts r (labels p) = labelled r (at σ p)
    acts r (opens p) = opened r (at σ p)
    acts r (makes h l d) = between 23 24 l _ (checked (ltb a.next a.limit) 26 0 _ refl)
    acts r (writes p d) = written r p d (at σ p)
    acts r (blocks b t n k) =
        between 23 24 b _ (checked (ltb a.depth 8) 28 0 _ (checked (leb n a.steps) 27 0 _ (checked (leb (a.next + 1 + k) a.limit) 26 0 _ refl)))

    performs : (q : Plan) → Sound (perform P R c a σ q)
    unfolding perform
    performs (faults code) = fails code 0 c a
    performs (asks r q) = acts r q

step_sound : (P : Program) (R : Runner) (c : Control) (a : Account) (σ : Store) → Sound (step P R c a σ)
unfolding step
step_sound P R c a σ = performs P R σ (jump (P.after c.pc) c) a (plan P a (jump (P.after c.pc) c) (P.fetch c.pc))

-- ── a run ──

module _ (P : Program) where
  -- with fuel for all the steps
  abbrev NoneLeft : ℕ → Type 0
  NoneLeft f = (c : Control) (a : Account) (σ : Store) → a.steps ≤ f → (run P f c a σ).ending ≡ Spent → (run P f c a σ).account.steps ≡ 0

  resumed : (f : ℕ) → NoneLeft f → (y : Next) → Sound y → (account_of y).steps ≤ f → (resume (run P f) y).ending ≡ Spent
      → (resume (run P f) y).account.steps ≡ 0
  unfolding resume
  resumed f h (go c a σ) s l e = h c a σ l e
  resumed f h (stop d a σ) s l e = absurd (true≢false (sym (ap is_spent e) ∙ s))

  none_left : (f : ℕ) → NoneLeft f
  unfolding run pay
  none_left zero c a σ l e = omega arith
  none_left (suc f) c a σ l e = left (none_left f) a.steps refl e
    where
      left : NoneLeft f → (m : ℕ) → a.steps ≡ m → (pay m a σ (λ b. resume (run P f) (step P (run P f) c b σ))).ending ≡ Spent
          → (pay m a σ (λ b. resume (run P f) (step P (run P f) c b σ))).account.steps ≡ 0
      left h zero q w = q
      left h (suc n) q w =
          resumed f h (step P (run P f) c (with_steps n a) σ) (step_sound P (run P f) c (with_steps n a) σ)
          (omega (arith, step_spends P (run P f) c (with_steps n a) σ)) w

  -- A run ends spent only with no step left.
  pub spent_left : (c : Control) (a : Account) (σ : Store) → (runs P c a σ).ending ≡ Spent → (runs P c a σ).account.steps ≡ 0
  unfolding runs
  spent_left c a σ e = none_left a.steps c a σ (le_refl a.steps) e
