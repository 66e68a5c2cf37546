-- `quote::quote_file` meets its contract.
use mathlib.Core.Path.{sym, ap, subst, ◌∙◌}
use native.Mathlib.Omega.{arith}
use Rattle.std.proofs.lemmas.Result.{err_from_is_err_and}
use Rattle.script_file.specs.Parts.{Loads}
use Rattle.script_file.specs.declared.Header.{Header}
use Rattle.script_file.proofs.Answers.{file-loads, in_place}
use Rattle.script_file.proofs.Findings.{code-in}
use Rattle.quote.specs.Quoting.{code_quote}
use Rattle.quote.specs.Passes.{Checked}
use Rattle.quote.proofs.Files.{checked_file, loads_quoted, stops_refused}
use Rattle.quote.proofs.quote_file.Goals as goal
use Rattle.quote.proofs.quote_file.Goals.{In_ok-header}

pub returns-in_err-header : goal.returns-in_err-header
returns-in_err-header c =
    let p = err_from_is_err_and c.from_residual.result c.from_residual.ensures.1 in
    rw (p.1, p.2) (stops_refused c.args.file.now c.in_err-header.field-0.0 c.in_err-header.ensures.0)

loaded : (c : In_ok-header) → Loads c.args.file.now c.in_ok-header.header c.load.new.labels
loaded c = file-loads _ _ _ _ c.in_ok-header.ensures.0 c.in_ok-header.ensures.1

pub slice_bounds-quote_code-count : goal.slice_bounds-quote_code-count
slice_bounds-quote_code-count c =
    let l = loaded c in
    omega (arith, ap (λ (h : Header). h.code.offset) l.numbers, (in_place c.args.file.now l.none).whole)

pub slice_bounds-quote_code-start : goal.slice_bounds-quote_code-start
slice_bounds-quote_code-start c =
    let l = loaded c in
    omega (arith, ap (λ (h : Header). h.code.offset) l.numbers, (in_place c.args.file.now l.none).whole)

pub quote_code-requires : goal.quote_code-requires
quote_code-requires c =
    let l = loaded (goal.at.quote_code-requires c).In_ok-header in
    subst Checked (sym (code-in c.args.file.now c.in_ok-header.header l.numbers)) (checked_file c.args.file.now l.none)

pub returns : goal.returns
returns c =
    let l = loaded (goal.at.returns c).In_ok-header in
    c.quote_code.ensures ∙ ap code_quote (code-in c.args.file.now c.in_ok-header.header l.numbers) ∙ loads_quoted c.args.file.now l.none
