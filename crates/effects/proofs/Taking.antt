-- What an effect makes of the state, in the definition's terms, and what it needs of it.
use mathlib.Core.Bool.{Bool, true, false, cond}
use mathlib.Core.Path.{◌≡◌, refl}
use mathlib.Core.List.{List, ◌∷◌}
use Prim.Native.Nat.{ℕ, ◌+◌, ◌≤◌, ◌<◌}
use native.Mathlib.Omega.{arith}
use lib.ListN.{length, get_or, set, drop, length-drop}
use Rattle.labels.specs.declared.Label.{Label}
use Rattle.labels.specs.Order.{join}
use Rattle.model.specs.declared.Datum.{Datum}
use Rattle.model.specs.declared.Datum.TheVariants.{Number, Label as Labelled, Handle}
use Rattle.model.specs.declared.Contents.TheVariants.{Value as Holds}
use Rattle.model.specs.declared.Ending.TheVariants.{Result}
use Rattle.model.specs.State.{Control, Store, Runner, at, number, push, jump, set_local, with_stack, with_frames, with_label, with_clearance, with_next}
use Rattle.model.specs.declared.Account.{Account}
use Rattle.model.specs.Operands.{tried}
use Rattle.model.specs.Effects.{Next, go, stop, fail, holding, seal_outcome, body_control, body_account}
use Rattle.store.specs.Records.{record_label, record_value, rewritten}
use Rattle.operands.specs.Program.{program}
use Rattle.operands.specs.Tasks.{label_of, thrown}
use Rattle.operands.specs.declared.Effect.{Effect}
use Rattle.operands.specs.declared.Effect.TheVariants.{Fault, Drop, Jump, Number as Gives, Handle as GivesHandle, Label as GivesLabel, Pair as GivesPair, Get, Set, Try, Done, End, Raise, Lower, Make, Write, Open, Block}
use Rattle.operands.specs.declared.Decision.{Decision}
use Rattle.effects.specs.Decisions.{label_from, paired_of, raised_by}

-- k operands dropped
abbrev pub less : ℕ → Control → Control
less k c = with_stack (drop k c.stack) c

-- ── what an effect needs ──

-- the bounds of a run state, as far as the checks rely on them
pub record Bounded (c : Control) (a : Account) : Type 0 where
  pub stack : length c.stack ≤ 32
  pub frames : length c.frames ≤ 8
  pub places : a.next ≤ a.limit

-- g values have room, f frames are free, d are held, m places are left
pub record Fits (c : Control) (a : Account) (g f d m : ℕ) : Type 0 where
  pub room : length c.stack + g ≤ 32
  pub free : f + length c.frames ≤ 8
  pub held : d ≤ length c.frames
  pub places : m + a.next ≤ a.limit

-- what a block that is entered has passed
pub record Cleared (c : Control) (a : Account) (n j : ℕ) : Type 0 where
  pub fits : Fits c a 1 0 0 0
  pub deep : a.depth < 8
  pub time : n ≤ a.steps
  pub room : a.next + 1 + j ≤ a.limit

module _ (c : Control) (a : Account) where
  abbrev pub FitsEffect : Effect → Type 0
  FitsEffect (Fault by code n) = Fits c a 0 0 0 0
  FitsEffect Drop = Fits c a 0 0 0 0
  FitsEffect (Jump t) = Fits c a 0 0 0 0
  FitsEffect (Gives n) = Fits c a 1 0 0 0
  FitsEffect (GivesHandle h p) = Fits c a 1 0 0 0
  FitsEffect (GivesLabel o) = Fits c a 1 0 0 0
  FitsEffect (GivesPair f) = Fits c a 1 0 0 0
  FitsEffect (Get i) = Fits c a 1 0 0 0
  FitsEffect (Set i) = Fits c a 0 0 0 0
  FitsEffect (Try h) = Fits c a 2 1 0 0
  FitsEffect Done = Fits c a 0 0 1 0
  FitsEffect End = Fits c a 0 0 0 0
  FitsEffect Raise = Fits c a 0 0 0 0
  FitsEffect Lower = Fits c a 0 0 0 0
  FitsEffect (Make h) = Fits c a 1 0 0 1
  FitsEffect (Write p) = Fits c a 0 0 0 0
  FitsEffect (Open p) = Fits c a 1 0 0 0
  FitsEffect (Block t n j) = Cleared c a n j

-- once k operands are dropped
pub fit : (c : Control) (a : Account) (k g : ℕ) → Bounded c a → k ≤ length c.stack → length c.stack + g ≤ 32 + k → Fits (less k c) a g 0 0 0
fit c a k g b h r =
    record { room = omega (arith, length-drop k c.stack, h, r); free = omega (arith, b.frames); held = omega arith; places = omega (arith, b.places) }

-- ── what an effect does ──

-- its operands dropped, y and x being the top one and the one below; R runs the bodies of blocks
module _ (code : List ℕ) (ls : List Label) (rs : List ℕ) (R : Runner) (c : Control) (a : Account) (σ : Store) (y x : Datum) where
  abbrev pub settle : Effect → Next
  settle (Fault by code n) = fail code n c (with_label (raised_by a.label by σ) a) σ
  settle Drop = go c a σ
  settle (Jump t) = go (jump t c) a σ
  settle (Gives n) = go (push (Number n) c) a σ
  settle (GivesHandle h p) = go (push (Handle h p) c) a σ
  settle (GivesLabel o) = go (push (Labelled (label_from o a.label a.clearance ls σ)) c) a σ
  settle (GivesPair f) = go (push (Labelled (paired_of f (label_of y) (label_of x))) c) a σ
  settle (Get i) = go (push (get_or c.locals i (number 0)).datum c) a σ
  settle (Set i) = go (set_local i y c) a σ
  settle (Try h) = go (with_frames (tried h a c ∷ c.frames) c) a σ
  settle Done = go (with_frames (drop 1 c.frames) c) a σ
  settle End = stop (Result y) a σ
  settle Raise = go c (with_label (join a.label (label_of y)) a) σ
  settle Lower = go c (with_clearance (label_of y) a) σ
  settle (Make h) =
      go (push (Handle h a.next) c) (with_next (a.next + 1) a) (set σ a.next (holding h (label_of y) (Holds x)))
  settle (Write p) = go c a (set σ p (rewritten x (at σ p)))
  settle (Open p) = go (push (record_value (at σ p)) c) (with_label (join a.label (record_label (at σ p))) a) σ
  settle (Block t n j) =
      seal_outcome (program code ls rs) c a (label_of y) n j (R (body_control t c) (body_account n j a) σ)

-- a decision that fits, and does what the definition does
module _ (code : List ℕ) (ls : List Label) (rs : List ℕ) (R : Runner) (c : Control) (a : Account) (σ : Store) (y x : Datum) where
  pub record Good (d : Decision) (n : Next) : Type 0 where
    pub there : d.takes ≤ length c.stack
    pub fits : FitsEffect (less d.takes c) a d.effect
    pub does : settle code ls rs R (less d.takes c) a σ y x d.effect ≡ n

  -- a fault that changes nothing
  pub good_fault : (code n : ℕ) → Bounded c a → Good (thrown code n) (fail code n c a σ)
  good_fault code n b = record { there = omega arith; fits = fit c a 0 0 b (omega arith) (omega (arith, b.stack)); does = refl }

  -- one test on both sides
  pub good_cond : (b : Bool) {d e : Decision} {n m : Next} → (b ≡ true → Good d n) → (b ≡ false → Good e m) → Good (cond b d e) (cond b n m)
  good_cond true p q = p refl
  good_cond false p q = q refl
