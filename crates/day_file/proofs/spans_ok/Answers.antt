-- `day_file::spans_ok` meets its contract: the first span that fails decides, or none.
use mathlib.Core.Path.{sym, ap, subst, ◌∙◌}
use native.Mathlib.Omega.{arith}
use Rattle.day_file.specs.Checks.{span_ok}
use Rattle.day_file.proofs.Findings.{Inside, finds_span, finds7, span_inside}
use Rattle.day_file.proofs.Turns.{all_left, one_stops, one_less, none_left}
use Rattle.day_file.proofs.spans_ok.Goals as goal
use Rattle.day_file.proofs.spans_ok.Goals.{After-job_at-job}

inside : (c : After-job_at-job) → Inside c.args.file.now c.args.h c.job_at-job.result
inside c =
    let p = c.requires.passed in
    subst (Inside c.args.file.now c.args.h) (sym c.job_at-job.ensures.0)
    (span_inside _ _ c.requires.is_header p.0 p.1 p.2 c.loop-i.i c.loop-i-test.true)

pub loop-i-init : goal.loop-i-init
loop-i-init c = all_left _ _ _ _

pub slice_bounds-span-end : goal.slice_bounds-span-end
slice_bounds-span-end c = let i = inside (goal.at.slice_bounds-span-end c).After-job_at-job in omega arith

pub code_ok-requires : goal.code_ok-requires
code_ok-requires c = let i = inside (goal.at.code_ok-requires c).After-job_at-job in omega arith

pub returns-then-not-code_ok : goal.returns-then-not-code_ok
returns-then-not-code_ok c =
    let fails = sym (ap (span_ok c.args.file.now) c.job_at-job.ensures.0) ∙ finds_span _ _ c.requires.is_header c.job_at-job.result (sym c.code_ok.ensures ∙ c.if-not-code_ok.true) in
    sym (finds7 _ _ c.requires.is_header (one_stops c.loop-i.invariant c.loop-i-test.true fails))

pub loop-i-preserved : goal.loop-i-preserved
loop-i-preserved c =
    one_less c.loop-i.invariant c.loop-i-test.true
    (sym (ap (span_ok c.args.file.now) c.job_at-job.ensures.0)
    ∙ finds_span _ _ c.requires.is_header c.job_at-job.result (sym c.code_ok.ensures ∙ c.if-not-code_ok.false))

pub returns : goal.returns
returns c = sym (finds7 _ _ c.requires.is_header (none_left c.loop-i.invariant c.loop-i-test.false))
