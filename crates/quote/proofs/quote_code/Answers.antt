-- `quote::quote_code` meets its contract: the first from the back that check 11 stops decides, or all are done.
use mathlib.Core.List.{[], ◌∷◌}
use mathlib.Core.Path.{◌≡◌, refl, subst, ◌∙◌}
use Prim.Native.Nat.{◌-◌, ◌+◌, ◌<◌}
use native.Mathlib.Omega.{arith}
use lib.ListN.{length, take, length-append}
use Rattle.std.specs.Prelude.{Option, Some, None, Ok, Err}
use Rattle.std.specs.Option.{ok_or}
use Rattle.std.proofs.Common.{length-take}
use Rattle.std.proofs.lemmas.Iterator.Adapters.{YieldsList-from_rev_slice}
use Rattle.std.proofs.lemmas.Iterator.Consumers.{YieldsList-turn, YieldsList-end}
use Rattle.std.proofs.lemmas.List.{length-reverse}
use Rattle.std.proofs.lemmas.Result.{err_from_is_err_and}
use Rattle.file_sections.specs.declared.Refusal.{Refusal}
use Rattle.file_sections.specs.declared.Refusal.TheVariants.{Ahead}
use Rattle.quote.specs.declared.Figures.{Figures}
use Rattle.quote.proofs.Pass.{place, Pass, pass_starts, starts_counted, item_at, in_code, behind_here, stopped, weight_ahead, weight_none, pass_on, all_done}
use Rattle.quote.proofs.quote_code.Goals as goal
use Rattle.quote.proofs.quote_code.Goals.{After-from-i}

pub slice_bounds-list-end : goal.slice_bounds-list-end
slice_bounds-list-end c = let n = starts_counted c.args.code.now c.requires c.list_starts-n.result c.list_starts-n.ensures.0 in omega arith

pub slice_bounds-iter-end : goal.slice_bounds-iter-end
slice_bounds-iter-end c =
    let n = starts_counted c.args.code.now c.requires c.list_starts-n.result c.list_starts-n.ensures.0 in
    omega (arith, length-take c.list_starts-n.result c.list_starts-n.new.list)

pub loop-start-init : goal.loop-start-init
loop-start-init c =
    let n = starts_counted c.args.code.now c.requires c.list_starts-n.result c.list_starts-n.ensures.0 in
    subst (Pass c.args.code.now _ _) (omega arith) (pass_starts c.args.code.now c.requires)

-- the place of a turn is that of the last instruction that is not done
turn : (c : After-from-i) → (length c.loop-start.yielded < c.list_starts-n.result) × (c.from-i.result ≡ place c.args.code.now (c.list_starts-n.result - (length c.loop-start.yielded + 1)))
turn c =
    let t =
    item_at c.args.code.now c.requires c.list_starts-n.result c.list_starts-n.ensures.0 c.list_starts-n.new.list c.list_starts-n.ensures.1 _ _
    (YieldsList-turn (YieldsList-from_rev_slice (take c.list_starts-n.result c.list_starts-n.new.list) cc) c.loop-start.yielded _ c.loop-start.yielded_by _ _ c.in-Some.field-0 c.in-Some.is c.next.ensures.steps) in
    (t.0, cc)

before : (c : After-from-i) → Pass c.args.code.now c.loop-start.figures c.loop-start.next (c.list_starts-n.result - (length c.loop-start.yielded + 1) + 1)
before c = let t = turn c in subst (Pass c.args.code.now c.loop-start.figures c.loop-start.next) (omega arith) c.loop-start.invariant

-- ── what an instruction weighs ──

pub weigh-requires-clause-behind : goal.weigh-requires-clause-behind
weigh-requires-clause-behind c =
    let n = starts_counted c.args.code.now c.requires c.list_starts-n.result c.list_starts-n.ensures.0 in
    let at = (goal.at.weigh-requires-clause-behind c).After-from-i in
    let t = turn at in
    behind_here c.args.code.now c.requires (c.list_starts-n.result - (length c.loop-start.yielded + 1)) (omega arith) c.from-i.result t.1
    c.loop-start.figures c.loop-start.next (before at)

no_weight : (o : Option Figures) (r : Refusal) → Err r ≡ ok_or o Ahead → (None ≡ o) × (r ≡ Ahead)
no_weight None r e = (refl, cc)
no_weight (Some f) r e = absurd (cc)

some_weight : (o : Option Figures) (f : Figures) → Ok f ≡ ok_or o Ahead → Some f ≡ o
some_weight None f e = absurd (cc)
some_weight (Some g) f e = cc

pub returns-in_err-next : goal.returns-in_err-next
returns-in_err-next c =
    let n = starts_counted c.args.code.now c.requires c.list_starts-n.result c.list_starts-n.ensures.0 in
    let t = turn (goal.at.returns-in_err-next c).After-from-i in
    let w = no_weight c.weigh.result c.in_err-next.field-0.0 c.in_err-next.ensures.value in
    let p = err_from_is_err_and c.from_residual.result c.from_residual.ensures.1 in
    rw (p.1, p.2, w.1)
    (stopped c.args.code.now c.requires (c.list_starts-n.result - (length c.loop-start.yielded + 1)) (omega arith) c.from-i.result t.1
    (weight_none c.loop-start.figures _ (w.0 ∙ c.weigh.ensures)))

pub bounds-figures-i : goal.bounds-figures-i
bounds-figures-i c =
    let n = starts_counted c.args.code.now c.requires c.list_starts-n.result c.list_starts-n.ensures.0 in
    let t = turn (goal.at.bounds-figures-i c).After-from-i in
    omega (arith, in_code c.args.code.now c.requires (c.list_starts-n.result - (length c.loop-start.yielded + 1)) (omega arith) c.from-i.result t.1)

pub loop-start-preserved : goal.loop-start-preserved
loop-start-preserved c =
    let n = starts_counted c.args.code.now c.requires c.list_starts-n.result c.list_starts-n.ensures.0 in
    let at = (goal.at.loop-start-preserved c).After-from-i in
    let t = turn at in
    let w = some_weight c.weigh.result c.in_ok-next.next c.in_ok-next.ensures.value ∙ c.weigh.ensures in
    let m = c.list_starts-n.result - (length c.loop-start.yielded + 1) in
    subst (Pass c.args.code.now _ _) (omega (arith, length-append c.loop-start.yielded (c.in-Some.field-0 ∷ [])))
    (pass_on c.args.code.now c.requires m (omega arith) c.from-i.result t.1 (weight_ahead c.loop-start.figures _ _ w) c.loop-start.figures c.loop-start.next (before at)
    (λ j. omega (arith, c.type_inv.code j)) c.in_ok-next.next w)

pub returns : goal.returns
returns c =
    let n = starts_counted c.args.code.now c.requires c.list_starts-n.result c.list_starts-n.ensures.0 in
    let t = YieldsList-end (YieldsList-from_rev_slice (take c.list_starts-n.result c.list_starts-n.new.list) cc) c.loop-start.yielded _ c.loop-start.yielded_by _ _ c.in-None.is c.next.ensures.steps in
    all_done c.args.code.now c.requires c.loop-start.figures c.loop-start.next
    (subst (Pass c.args.code.now c.loop-start.figures c.loop-start.next)
    (omega (arith, t.1, length-reverse (take c.list_starts-n.result c.list_starts-n.new.list), length-take c.list_starts-n.result c.list_starts-n.new.list)) c.loop-start.invariant)
