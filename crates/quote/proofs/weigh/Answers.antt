-- `quote::weigh` meets its contract: each instruction by its own row of the definition.
use mathlib.Core.List.{List, [], ◌∷◌}
use mathlib.Core.Logic.{◌⊎◌, inl, inr}
use mathlib.Core.Path.{◌≡◌, refl, sym, ap, ◌∙◌}
use Prim.Native.Nat.{ℕ, ◌+◌, ◌≤◌, ◌<◌}
use native.Mathlib.Omega.{arith}
use Rattle.std.specs.Bool.{then_some}
use Rattle.std.specs.Prelude.{Option, Some}
use Rattle.model.specs.declared.Instr.{Instr}
use Rattle.model.specs.declared.Instr.TheVariants.{End, Jump, Ifz, Seal, New, Block, Try, Throw}
use Rattle.model.specs.Decoding.{fetch, after, byte}
use Rattle.decode.specs.declared.Decoded.{Decoded}
use Rattle.quote.specs.Paths.{most}
use Rattle.quote.specs.Quoting.{Node, goes_on, node, node_at}
use Rattle.quote.specs.Passes.{steps_in, places_in, weight_from}
use Rattle.quote.specs.declared.Figures.{Figures}
use Rattle.quote.proofs.Nodes.{Plain, plain_on, steps_small, places_small}
use Rattle.quote.proofs.weigh.Goals as goal
use Rattle.quote.proofs.weigh.Goals.{In-Block}

-- the instruction at a place, as it is decoded
here : (code : List ℕ) (i : ℕ) (d : Decoded) (x : Instr) → d ≡ record { instr = fetch code i; after = after code i } → d.instr ≡ x → node i (after code i) x ≡ node_at code i
unfolding node_at
here code i d x e f = let g : fetch code i ≡ x = cc in rw g

-- the figures of a node, as they are added up
module _ (fs : List Figures) (x : Node) {y : Node} {r : Option Figures} {f : Figures} {s p : ℕ} where
  weighs : r ≡ then_some x.ahead f → f ≡ record { steps = s; places = p } → x ≡ y
      → s ≡ x.steps + most (steps_in fs) x.successors → p ≡ x.places + most (places_in fs) x.successors → r ≡ weight_from fs y
  weighs e g h n m = rw (← h, e, g, n, m)

-- a block's operands are small
block_small : (code : List ℕ) → ((j : ℕ) → byte code j < 256) → (i next t n k : ℕ) → node i next (Block t n k) ≡ node_at code i → (n ≤ 70000) × (k ≤ 70000)
unfolding node
block_small code bytes i next t n k e =
    (omega (arith, steps_small code bytes i, ap (λ (x : Node). x.steps) e), omega (arith, places_small code bytes i, ap (λ (x : Node). x.places) e))

in_block : (c : In-Block) → (c.in-Block.n ≤ 70000) × (c.in-Block.k ≤ 70000)
in_block c =
    block_small c.args.code.now (λ j. omega (arith, c.type_inv.code j)) c.args.i (after c.args.code.now c.args.i) c.in-Block.t c.in-Block.n c.in-Block.k
    (here _ _ _ _ c.decode.ensures c.in-Block.is)

pub overflow_cast-n : goal.overflow_cast-n
overflow_cast-n c = let b = in_block c in omega arith

pub overflow_add-n : goal.overflow_add-n
overflow_add-n c = let b = in_block c in omega arith

pub overflow_cast-k : goal.overflow_cast-k
overflow_cast-k c = let b = in_block c in omega arith

pub overflow_add-k : goal.overflow_add-k
overflow_add-k c = let b = in_block c in omega arith

pub charged-requires-in-Block-clause-small_steps : goal.charged-requires-in-Block-clause-small_steps
charged-requires-in-Block-clause-small_steps c =
    let b = in_block c in
    omega (arith, ap (λ (x : Figures). x.steps) c.requires.behind, c.requires.small.steps (after c.args.code.now c.args.i))

pub charged-requires-in-Block-clause-small_places : goal.charged-requires-in-Block-clause-small_places
charged-requires-in-Block-clause-small_places c =
    let b = in_block c in
    omega (arith, ap (λ (x : Figures). x.places) c.requires.behind, c.requires.small.places (after c.args.code.now c.args.i))

-- ── the arms ──

pub returns-in-End : goal.returns-in-End
unfolding node
returns-in-End c = by c.in-End.is
  where
    by : (c.decode.result.instr ≡ End) ⊎ (c.decode.result.instr ≡ Throw) → Some c.charged.result ≡ weight_from c.args.figures.now (node_at c.args.code.now c.args.i)
    by (inl e) = weighs _ (node c.args.i (after c.args.code.now c.args.i) End) refl c.charged.ensures (here _ _ _ _ c.decode.ensures e) refl refl
    by (inr e) = weighs _ (node c.args.i (after c.args.code.now c.args.i) Throw) refl c.charged.ensures (here _ _ _ _ c.decode.ensures e) refl refl

pub returns-in-Jump : goal.returns-in-Jump
unfolding node
returns-in-Jump c =
    let f = c.found.ensures in
    weighs c.args.figures.now (node c.args.i (after c.args.code.now c.args.i) (Jump c.in-Jump.t)) c.then_some.ensures c.charged-in-Jump.ensures
    (here _ _ _ _ c.decode.ensures c.in-Jump.is)
    (omega (arith, ap (λ (x : Figures). x.steps) f)) (omega (arith, ap (λ (x : Figures). x.places) f))

pub returns-in-Ifz : goal.returns-in-Ifz
unfolding node
returns-in-Ifz c =
    let f = c.found-in-Ifz.ensures in
    let g = c.requires.behind in
    weighs c.args.figures.now (node c.args.i (after c.args.code.now c.args.i) (Ifz c.in-Ifz.t)) c.then_some-in-Ifz.ensures c.charged-in-Ifz.ensures
    (here _ _ _ _ c.decode.ensures c.in-Ifz.is)
    (omega (arith, c.larger.ensures.steps, ap (λ (x : Figures). x.steps) f, ap (λ (x : Figures). x.steps) g))
    (omega (arith, c.larger.ensures.places, ap (λ (x : Figures). x.places) f, ap (λ (x : Figures). x.places) g))

pub returns-in-Seal : goal.returns-in-Seal
unfolding node
returns-in-Seal c = by c.in-Seal.is
  where
    steps : 1 + c.args.next.steps ≡ 1 + most (steps_in c.args.figures.now) ((after c.args.code.now c.args.i) ∷ [])
    steps = omega (arith, ap (λ (x : Figures). x.steps) c.requires.behind)

    places : 1 + c.args.next.places ≡ 1 + most (places_in c.args.figures.now) ((after c.args.code.now c.args.i) ∷ [])
    places = omega (arith, ap (λ (x : Figures). x.places) c.requires.behind)

    by : (c.decode.result.instr ≡ Seal) ⊎ (c.decode.result.instr ≡ New) → Some c.charged-in-Seal.result ≡ weight_from c.args.figures.now (node_at c.args.code.now c.args.i)
    by (inl e) = weighs _ (node c.args.i (after c.args.code.now c.args.i) Seal) refl c.charged-in-Seal.ensures (here _ _ _ _ c.decode.ensures e) steps places
    by (inr e) = weighs _ (node c.args.i (after c.args.code.now c.args.i) New) refl c.charged-in-Seal.ensures (here _ _ _ _ c.decode.ensures e) steps places

pub returns-in-Block : goal.returns-in-Block
unfolding node
returns-in-Block c =
    let g = c.requires.behind in
    weighs c.args.figures.now (node c.args.i (after c.args.code.now c.args.i) (Block c.in-Block.t c.in-Block.n c.in-Block.k)) c.then_some-in-Block.ensures c.charged-in-Block.ensures
    (here _ _ _ _ c.decode.ensures c.in-Block.is)
    (omega (arith, ap (λ (x : Figures). x.steps) g)) (omega (arith, ap (λ (x : Figures). x.places) g))

pub returns-in-Try : goal.returns-in-Try
unfolding node
returns-in-Try c = ap (weight_from c.args.figures.now) (here c.args.code.now c.args.i c.decode.result (Try c.in-Try.field-0) c.decode.ensures c.in-Try.is)

pub returns-in_default : goal.returns-in_default
returns-in_default c =
    let d = c.in_default in
    let plain : Plain c.decode.result.instr =
    record {
      is_end = d.not-End;
      is_jump = d.not-Jump;
      is_ifz = d.not-Ifz;
      is_seal = d.not-Seal;
      is_new = d.not-New;
      is_block = d.not-Block;
      is_try = d.not-Try;
      is_throw = d.not-Throw;
    } in
    let g = c.requires.behind in
    weighs c.args.figures.now (goes_on (after c.args.code.now c.args.i)) refl c.charged-in_default.ensures
    (sym (plain_on c.args.i (after c.args.code.now c.args.i) c.decode.result.instr plain) ∙ here _ _ _ _ c.decode.ensures refl)
    (omega (arith, ap (λ (x : Figures). x.steps) g)) (omega (arith, ap (λ (x : Figures). x.places) g))
