-- Each effect, applied in place, keeps the loop's invariant; what the calls ask for; and what a run leaves.
use mathlib.Core.Path.{refl, sym, ◌∙◌}
use native.Mathlib.Omega.{arith}
use lib.Seq.{set_out}
use Rattle.effects.proofs.Taking.{Cleared}
use Rattle.machine.specs.State.{account, control}
use Rattle.machine.proofs.Methods.{roomy, read_at}
use Rattle.machine.proofs.Applying.{does_end_fault, does_catch, does_drop, does_jump, does_set, does_end, does_raise}
use Rattle.machine.proofs.Applying.{does_lower, does_write, does_number, does_handle, does_label, does_pair, does_get}
use Rattle.machine.proofs.Applying.{does_open, does_make, does_try, does_done, does_block, one_and}
use Rattle.machine.proofs.Turns.{Inside, inside, finishes}
use Rattle.machine.proofs.Loop.{taken, there, applied, at_hand, has, one_fits, again}
use Rattle.machine.proofs.+step_run.Goals as goal
use Rattle.machine.proofs.+step_run.Goals.{State::step-in-Fault+then-self-eq8, State::step-in-Fault+else-self-eq8}
use Rattle.machine.proofs.+step_run.Goals.{State::step-in-Drop, State::step-in-Jump, State::step-in-Number}
use Rattle.machine.proofs.+step_run.Goals.{State::step-in-Handle, State::step-in-Label, State::step-in-Pair}
use Rattle.machine.proofs.+step_run.Goals.{State::step-in-Get, State::step-in-Set+then-i-lt16, State::step-in-Set+else-i-lt16}
use Rattle.machine.proofs.+step_run.Goals.{State::step-in-Try, State::step-in-Done, State::step-in-End, State::step-in-Raise}
use Rattle.machine.proofs.+step_run.Goals.{State::step-in-Lower, State::step-in-Make, State::step-in-Write}
use Rattle.machine.proofs.+step_run.Goals.{State::step-in-Open, State::step-in-Block}

pub State::step-pop-self-requires : goal.State::step-pop-self-requires
State::step-pop-self-requires t c =
    there
    (taken c.loop.invariant c.loop-test.true c.ready.ensures c.if-not-ready.false c.charge-self.ensures c.decode-f.ensures
    c.min-first.ensures c.min-second.ensures c.decide-d.ensures)

pub State::step-catch-requires : goal.State::step-catch-requires
State::step-catch-requires t c =
    let a =
    applied
    (taken c.loop.invariant c.loop-test.true c.ready.ensures c.if-not-ready.false c.charge-self.ensures c.decode-f.ensures
    c.min-first.ensures c.min-second.ensures c.decide-d.ensures)
    c.pop-self.ensures in
    let o = a.applies.ok in
    record { places = (o.stack.index, omega (arith, c.if-self-eq8.false, o.frames.index)); low = o.frames.low _ }

pub State::step-put-requires : goal.State::step-put-requires
State::step-put-requires t c =
    let a =
    applied
    (taken c.loop.invariant c.loop-test.true c.ready.ensures c.if-not-ready.false c.charge-self.ensures c.decode-f.ensures
    c.min-first.ensures c.min-second.ensures c.decide-d.ensures)
    c.pop-self.ensures in
    one_fits a (has a c.in-Number.is)

pub State::step-put-requires-in-Handle : goal.State::step-put-requires-in-Handle
State::step-put-requires-in-Handle t c =
    let a =
    applied
    (taken c.loop.invariant c.loop-test.true c.ready.ensures c.if-not-ready.false c.charge-self.ensures c.decode-f.ensures
    c.min-first.ensures c.min-second.ensures c.decide-d.ensures)
    c.pop-self.ensures in
    one_fits a (has a c.in-Handle.is)

pub State::step-put-requires-in-Label : goal.State::step-put-requires-in-Label
State::step-put-requires-in-Label t c =
    let a =
    applied
    (taken c.loop.invariant c.loop-test.true c.ready.ensures c.if-not-ready.false c.charge-self.ensures c.decode-f.ensures
    c.min-first.ensures c.min-second.ensures c.decide-d.ensures)
    c.pop-self.ensures in
    one_fits a (has a c.in-Label.is)

pub State::step-put-requires-in-Pair : goal.State::step-put-requires-in-Pair
State::step-put-requires-in-Pair t c =
    let a =
    applied
    (taken c.loop.invariant c.loop-test.true c.ready.ensures c.if-not-ready.false c.charge-self.ensures c.decode-f.ensures
    c.min-first.ensures c.min-second.ensures c.decide-d.ensures)
    c.pop-self.ensures in
    one_fits a (has a c.in-Pair.is)

pub State::step-put-requires-in-Get : goal.State::step-put-requires-in-Get
State::step-put-requires-in-Get t c =
    let a =
    applied
    (taken c.loop.invariant c.loop-test.true c.ready.ensures c.if-not-ready.false c.charge-self.ensures c.decode-f.ensures
    c.min-first.ensures c.min-second.ensures c.decide-d.ensures)
    c.pop-self.ensures in
    one_fits a (has a c.in-Get.is)

pub State::step-overflow_sub-self : goal.State::step-overflow_sub-self
State::step-overflow_sub-self t c =
    let a =
    applied
    (taken c.loop.invariant c.loop-test.true c.ready.ensures c.if-not-ready.false c.charge-self.ensures c.decode-f.ensures
    c.min-first.ensures c.min-second.ensures c.decide-d.ensures)
    c.pop-self.ensures in
    (roomy c.pop-self.result a.applies.ok (has a c.in-Try.is)).free

pub State::step-overflow_sub-self-in-Try : goal.State::step-overflow_sub-self-in-Try
State::step-overflow_sub-self-in-Try t c =
    let a =
    applied
    (taken c.loop.invariant c.loop-test.true c.ready.ensures c.if-not-ready.false c.charge-self.ensures c.decode-f.ensures
    c.min-first.ensures c.min-second.ensures c.decide-d.ensures)
    c.pop-self.ensures in
    a.applies.ok.stack.index

pub State::step-put-requires-in-Make : goal.State::step-put-requires-in-Make
State::step-put-requires-in-Make t c =
    let a =
    applied
    (taken c.loop.invariant c.loop-test.true c.ready.ensures c.if-not-ready.false c.charge-self.ensures c.decode-f.ensures
    c.min-first.ensures c.min-second.ensures c.decide-d.ensures)
    c.pop-self.ensures in
    one_fits a (has a c.in-Make.is)

pub State::step-put-requires-in-Open : goal.State::step-put-requires-in-Open
State::step-put-requires-in-Open t c =
    let a =
    applied
    (taken c.loop.invariant c.loop-test.true c.ready.ensures c.if-not-ready.false c.charge-self.ensures c.decode-f.ensures
    c.min-first.ensures c.min-second.ensures c.decide-d.ensures)
    c.pop-self.ensures in
    rw c.raise-self-in-Open.ensures (one_fits a (has a c.in-Open.is))

pub State::step-inside-body-requires : goal.State::step-inside-body-requires
State::step-inside-body-requires t c =
    let a =
    applied
    (taken c.loop.invariant c.loop-test.true c.ready.ensures c.if-not-ready.false c.charge-self.ensures c.decode-f.ensures
    c.min-first.ensures c.min-second.ensures c.decide-d.ensures)
    c.pop-self.ensures in
    let k : Cleared (control c.pop-self.result) (account c.pop-self.result) c.in-Block.n c.in-Block.places =
    has a c.in-Block.is in
    rw c.account.ensures (k.deep, omega (arith, k.room, a.applies.ok.places.most))

pub State::step-run-done-requires : goal.State::step-run-done-requires
State::step-run-done-requires t c =
    let a =
    applied
    (taken c.loop.invariant c.loop-test.true c.ready.ensures c.if-not-ready.false c.charge-self.ensures c.decode-f.ensures
    c.min-first.ensures c.min-second.ensures c.decide-d.ensures)
    c.pop-self.ensures in
    let k : Cleared (control c.pop-self.result) (account c.pop-self.result) c.in-Block.n c.in-Block.places =
    has a c.in-Block.is in
    let i : Inside c.in-Block.n c.inside-body.result =
    inside c.pop-self.result _ _ _ a.applies.ok k (rw c.account.ensures at c.inside-body.ensures) in
    (omega (arith, i.time, k.time, a.most, c.decreases), (i.used, i.most))

pub State::step-charge-self-requires-in-Block : goal.State::step-charge-self-requires-in-Block
State::step-charge-self-requires-in-Block t c =
    let a =
    applied
    (taken c.loop.invariant c.loop-test.true c.ready.ensures c.if-not-ready.false c.charge-self.ensures c.decode-f.ensures
    c.min-first.ensures c.min-second.ensures c.decide-d.ensures)
    c.pop-self.ensures in
    let k : Cleared (control c.pop-self.result) (account c.pop-self.result) c.in-Block.n c.in-Block.places =
    has a c.in-Block.is in
    k.time

pub State::step-put-requires-in-Block : goal.State::step-put-requires-in-Block
State::step-put-requires-in-Block t c =
    let a =
    applied
    (taken c.loop.invariant c.loop-test.true c.ready.ensures c.if-not-ready.false c.charge-self.ensures c.decode-f.ensures
    c.min-first.ensures c.min-second.ensures c.decide-d.ensures)
    c.pop-self.ensures in
    let k : Cleared (control c.pop-self.result) (account c.pop-self.result) c.in-Block.n c.in-Block.places =
    has a c.in-Block.is in
    rw c.charge-self-in-Block.ensures (one_fits a k.fits)

pub State::step-loop-preserved : goal.State::step-loop-preserved
State::step-loop-preserved t c =
    let a =
    applied
    (taken c.loop.invariant c.loop-test.true c.ready.ensures c.if-not-ready.false c.charge-self.ensures c.decode-f.ensures
    c.min-first.ensures c.min-second.ensures c.decide-d.ensures)
    c.pop-self.ensures in
    elim c.match-d.branch [
      | State::step-in-Fault+then-self-eq8 w ↦
          rw (w.store-is, w.self-is) (again a _ w.in-Fault.is
          (does_end_fault (at_hand a) w.in-Fault.by _ _ _ w.raised-self.ensures w.if-self-eq8.true))
      | State::step-in-Fault+else-self-eq8 w ↦
          rw (w.store-is, w.self-is) (rw w.catch.ensures (again a _ w.in-Fault.is
          (does_catch (at_hand a) w.in-Fault.by _ _ _ _ w.raised-self.ensures
          (omega (arith, w.if-self-eq8.false, a.applies.ok.frames.index)) refl)))
      | State::step-in-Drop w ↦ rw (w.store-is, w.self-is) (again a _ w.in-Drop.is (does_drop (at_hand a)))
      | State::step-in-Jump w ↦ rw (w.store-is, w.self-is) (again a _ w.in-Jump.is (does_jump (at_hand a) _))
      | State::step-in-Number w ↦
          rw (w.store-is, w.self-is) (rw (w.put.ensures.lies, w.put.ensures.holds) (again a _ w.in-Number.is
          (does_number (at_hand a) (roomy c.pop-self.result a.applies.ok (has a w.in-Number.is)) _)))
      | State::step-in-Handle w ↦
          rw (w.store-is, w.self-is) (rw (w.put-in-Handle.ensures.lies, w.put-in-Handle.ensures.holds) (again a _ w.in-Handle.is
          (does_handle (at_hand a) (roomy c.pop-self.result a.applies.ok (has a w.in-Handle.is)) _ _)))
      | State::step-in-Label w ↦
          rw (w.store-is, w.self-is) (rw (w.put-in-Label.ensures.lies, w.put-in-Label.ensures.holds) (again a _ w.in-Label.is
          (does_label (at_hand a)
          (roomy c.pop-self.result a.applies.ok (has a w.in-Label.is)) w.in-Label.o _ w.label_from-l.ensures)))
      | State::step-in-Pair w ↦
          rw (w.store-is, w.self-is) (rw (w.put-in-Pair.ensures.lies, w.put-in-Pair.ensures.holds) (again a _ w.in-Pair.is
          (does_pair (at_hand a)
          (roomy c.pop-self.result a.applies.ok (has a w.in-Pair.is))
          w.in-Pair.f _ _ _ w.label_in-m.ensures w.label_in-l.ensures w.paired.ensures)))
      | State::step-in-Get w ↦
          rw (w.store-is, w.self-is) (rw (w.put-in-Get.ensures.lies, w.put-in-Get.ensures.holds) (again a _ w.in-Get.is
          (does_get (at_hand a)
          (roomy c.pop-self.result a.applies.ok (has a w.in-Get.is)) _ _ ((rw w.min.ensures at w.present-d.ensures) ∙ read_at c.pop-self.result.locals _ 15 a.applies.ok.locals))))
      | State::step-in-Set+then-i-lt16 w ↦ rw (w.store-is, w.self-is) (again a _ w.in-Set.is (does_set (at_hand a) _ _ refl))
      | State::step-in-Set+else-i-lt16 w ↦
          rw (w.store-is, w.self-is) (again a _ w.in-Set.is
          (does_set (at_hand a) _ c.pop-self.result.locals (sym (set_out c.pop-self.result.locals w.in-Set.i _
          (omega (arith, w.if-i-lt16.false, a.applies.ok.locals))))))
      | State::step-in-Try w ↦
          rw (w.store-is, w.self-is) (again a _ w.in-Try.is (does_try (at_hand a) _
          (roomy c.pop-self.result a.applies.ok (has a w.in-Try.is))))
      | State::step-in-Done w ↦
          rw (w.store-is, w.self-is) (again a _ w.in-Done.is (does_done (at_hand a)
          (roomy c.pop-self.result a.applies.ok (has a w.in-Done.is))))
      | State::step-in-End w ↦ rw (w.store-is, w.self-is) (again a _ w.in-End.is (does_end (at_hand a) _ w.same.ensures))
      | State::step-in-Raise w ↦
          rw (w.store-is, w.self-is) (rw w.raise-self.ensures (again a _ w.in-Raise.is
          (does_raise (at_hand a) _ w.label_in.ensures)))
      | State::step-in-Lower w ↦
          rw (w.store-is, w.self-is) (again a _ w.in-Lower.is (does_lower (at_hand a) _ w.label_in-self.ensures))
      | State::step-in-Make w ↦
          rw (w.store-is, w.self-is) (rw (w.put-in-Make.ensures.lies, w.put-in-Make.ensures.holds) (again a _ w.in-Make.is
          (does_make (at_hand a) _ _ _
          (roomy c.pop-self.result a.applies.ok (has a w.in-Make.is)) w.label_in-l-in-Make.ensures w.keep.ensures)))
      | State::step-in-Write w ↦
          rw (w.store-is, w.self-is) (again a _ w.in-Write.is (does_write (at_hand a) _ _ w.rewrite.ensures))
      | State::step-in-Open w ↦
          rw (w.store-is, w.self-is) (rw (w.put-in-Open.ensures.lies, w.put-in-Open.ensures.holds, w.raise-self-in-Open.ensures)
          (again a _ w.in-Open.is (does_open (at_hand a)
          (roomy c.pop-self.result a.applies.ok (has a w.in-Open.is)) _ _ _ w.label_of-l.ensures w.value_of-d.ensures)))
      | State::step-in-Block w ↦
          rw (w.store-is, w.self-is)
          (rw (
            w.put-in-Block.ensures.lies,
            w.put-in-Block.ensures.holds,
            w.charge-self-in-Block.ensures,
            one_and c.pop-self.result.next w.in-Block.places,
          )
          (again a _ w.in-Block.is (does_block (at_hand a) _ _ _ _ _ _ _ _ (has a w.in-Block.is) w.label_in-b.ensures
          (rw w.account.ensures at w.inside-body.ensures) w.run-done.ensures w.conclude.ensures)))
    ]

pub run-returns : goal.run-returns
run-returns t c =
    rw (c.same_label.ensures, c.same_label-2.ensures)
    (finishes _ c.args.pc c.args.locals.now c.args.a c.step-r.result
    c.ending.result _ _ c.ending.ensures (rw c.start.ensures at c.step-r.ensures))
