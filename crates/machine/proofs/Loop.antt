-- The loop of `State::step`: what it keeps, and a turn of it up to the effect that is applied.
use mathlib.Core.Bool.{Bool, true}
use mathlib.Core.Path.{◌≡◌, ap, subst, ◌∙◌}
use Prim.Native.Nat.{ℕ, ◌+◌, ◌-◌, min, ◌≤◌, ◌<◌}
use native.Mathlib.Omega.{arith}
use Rattle.model.specs.State.{Store}
use Rattle.model.specs.Decoding.{fetch, after}
use Rattle.decode.specs.declared.Decoded.{Decoded}
use Rattle.operands.specs.declared.Effect.{Effect}
use Rattle.operands.specs.declared.Decision.{Decision}
use Rattle.effects.proofs.Taking.{Fits, FitsEffect}
use Rattle.machine.specs.declared.State.{State}
use Rattle.machine.specs.State.{Ok, control, account, Ran, next_of, datum_at, popped, charged}
use Rattle.machine.specs.Steps.{meant}
use Rattle.machine.specs.declared.program.Program.{Program as Given}
use Rattle.machine.specs.Turns.{ready_of, decided, turns}
use Rattle.machine.proofs.Methods.{jumped, roomy}
use Rattle.machine.proofs.Applying.{Decided, Settled}
use Rattle.machine.proofs.Turns.{GoodIn, step_of, found, Applies, takes_there, dropped, taken_over, Turn, turn, Through, through}

-- what a state and its records keep, once i turns are done of count from s0 and the records ρ
pub record Held (G : Given) (s0 : State) (ρ : Store) (count : ℕ) (s : State) (σ : Store) (i : ℕ) : Type 0 where
  pub ok : Ok s
  pub spends : s.steps ≤ s0.steps
  pub same : turns (meant G) (count - i) (next_of s σ) ≡ turns (meant G) count (next_of s0 ρ)

-- turn i from s, whose decision d is taken: p has the step paid, f and g are where the two values on top lie, q is what is read
pub record Taken (G : Given) (s0 : State) (ρ : Store) (count : ℕ) (σ : Store) (i : ℕ) (p : State) (f g : ℕ) (q : Decoded) (d : Decision) : Type 0 where
  pub from : State
  pub held : Held G s0 ρ count from σ i
  pub more : i < count
  pub turned : Turn (meant G) from p
  pub good : GoodIn G p (jumped q.after p) σ f g d (step_of (meant G) p σ)

pub taken : {G : Given} {s0 : State} {ρ : Store} {count : ℕ} {s : State} {σ : Store} {i : ℕ} {b : Bool} {p : State} {f g : ℕ} {q : Decoded} {d : Decision}
    → Held G s0 ρ count s σ i → i < count → b ≡ ready_of s → b ≡ true → p ≡ charged 1 s
    → q ≡ record { instr = fetch G.code.now p.pc; after = after G.code.now p.pc }
    → f ≡ min p.top 31 → g ≡ min (p.top + 1) 31 → d ≡ decided q.instr f g G.records.now p σ
    → Taken G s0 ρ count σ i p f g q d
taken {G} {s0} {ρ} {count} {s} {σ} {i} {b} {p} {f} {g} {q} {d} h more eb nb ep eq ef eg ed =
    let t : Turn (meant G) s p = turn (meant G) s p b h.ok eb nb ep in
    record {
      from = s;
      held = h;
      more = more;
      turned = t;
      good = found G p σ q f g d t.ok ef eg eq ed;
    }

module _ {G : Given} {s0 : State} {ρ : Store} {count : ℕ} {σ : Store} {i : ℕ} {p : State} {f g : ℕ} {q : Decoded} {d : Decision}
    (t : Taken G s0 ρ count σ i p f g q d) where
  -- the operands are there
  pub there : p.top + d.takes ≤ 32
  there = takes_there p d.takes t.turned.ok t.good.there

-- its operands dropped, with r: what is left is to apply e
pub record Applied (G : Given) (s0 : State) (ρ : Store) (count : ℕ) (σ : Store) (i : ℕ) (r : State) (f g : ℕ) (e : Effect) : Type 0 where
  pub paid : State
  -- a body's steps are fewer than the step was called with
  pub most : r.steps + 1 ≤ s0.steps
  pub applies : Applies G r σ f g e (step_of (meant G) paid σ)
  pub onward : (q : State) (τ : Store) → Ran q τ (step_of (meant G) paid σ) → Held G s0 ρ count q τ (i + 1)

pub applied : {G : Given} {s0 : State} {ρ : Store} {count : ℕ} {σ : Store} {i : ℕ} {p : State} {f g : ℕ} {q : Decoded} {d : Decision} {r : State}
    → Taken G s0 ρ count σ i p f g q d → r ≡ popped d.takes (jumped q.after p) → Applied G s0 ρ count σ i r f g d.effect
applied {G} {s0} {ρ} {count} {σ} {i} {p} {f} {g} {q} {d} {r} t e =
    record {
      paid = p;
      most = omega (arith, ap (λ (s : State). s.steps) e, ap (λ (s : State). s.steps) t.turned.paid, t.turned.at.some, t.held.spends);
      applies = dropped G (jumped q.after p) r σ f g d _ t.turned.ok t.turned.live t.good e;
      onward = λ x τ ran.
          let m = count - (i + 1) in
          let y : Through (meant G) m t.from x σ τ = through (meant G) m t.from p x _ _ t.turned ran in
          let left : m + 1 ≡ count - i = omega (arith, t.more) in
          let spends : x.steps ≤ s0.steps = omega (arith, y.spends, t.held.spends) in
          record { ok = y.ok; spends = spends; same = y.same ∙ ap (λ (k : ℕ). turns (meant G) k (next_of t.from σ)) left ∙ t.held.same };
    }

module _ {G : Given} {s0 : State} {ρ : Store} {count : ℕ} {σ : Store} {i : ℕ} {r : State} {f g : ℕ} {e : Effect} (a : Applied G s0 ρ count σ i r f g e) where
  abbrev pub at_hand : Decided
  at_hand = record { program = G; σ = σ; y = datum_at r f; x = datum_at r g; s = r; ok = a.applies.ok; live = a.applies.live }

  pub has : {h : Effect} → e ≡ h → FitsEffect (control r) (account r) h
  has q = subst (FitsEffect (control r) (account r)) q a.applies.fits

  -- a value that is pushed has room
  pub one_fits : {d n : ℕ} → Fits (control r) (account r) 1 0 d n → (0 < r.top) × (r.top ≤ 32)
  one_fits w = ((roomy r a.applies.ok w).room, a.applies.ok.stack.index)

  -- the effect applied, x with the records τ being what it leaves
  pub again : {h : Effect} {x : State} (τ : Store) → e ≡ h → Settled at_hand x τ h → Held G s0 ρ count x τ (i + 1)
  again {h} {x} τ q ran = a.onward x τ (taken_over G r σ τ f g e h x _ a.applies q ran)
