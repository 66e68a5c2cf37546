-- `label_entries::read_entry` meets its contract: each test that fails is one of those of a well-formed entry. Assumes nothing.
use mathlib.Core.Path.{sym, ap, ◌∙◌}
use native.Mathlib.Omega.{arith}
use Prim.Native.Nat.{ℕ}
use Rattle.std.specs.Prelude.{Some}
use Rattle.label_entries.specs.Entries.{read_formula}
use Rattle.label_entries.proofs.Reading.{refused, secrecy_part, cut, integrity_part, all_there, counted, secrecy_refused, integrity_refused, both_read}
use Rattle.label_entries.proofs.read_entry.Goals as goal

pub returns-in_default : goal.returns-in_default
returns-in_default c = refused c.args.s.now (λ w. omega (arith, w.counts))

pub returns-in_err-secrecy : goal.returns-in_err-secrecy
returns-in_err-secrecy c =
    let short = (c.in_err-secrecy.ensures).cases in
    c.from_residual.ensures ∙ refused c.args.s.now (λ w. omega (arith, w.whole, short, c.from.ensures))

pub returns-in_err-integrity : goal.returns-in_err-integrity
returns-in_err-integrity c =
    let s = (c.in_ok-secrecy.ensures).cases in
    c.from_residual-in_err-integrity.ensures
    ∙ cut c.args.s.now _ _ c.from.ensures c.from-2.ensures _ _ s (c.in_err-integrity.ensures).cases

pub returns-in_err-read_formula : goal.returns-in_err-read_formula
returns-in_err-read_formula c =
    let xs = c.args.s.now in
    let s = (c.in_ok-secrecy.ensures).cases in
    let i = (c.in_ok-integrity.ensures).cases in
    c.from_residual-in_err-read_formula.ensures
    ∙ secrecy_refused xs (all_there xs _ _ c.from.ensures c.from-2.ensures _ _ s (omega arith) _ _ i)
    (sym c.in_err-read_formula.was ∙ c.read_formula.ensures ∙ ap read_formula (secrecy_part xs _ _ c.from.ensures c.from-2.ensures _ _ s))

pub returns-in_err-read_formula-2 : goal.returns-in_err-read_formula-2
returns-in_err-read_formula-2 c =
    let xs = c.args.s.now in
    let s = (c.in_ok-secrecy.ensures).cases in
    let i = (c.in_ok-integrity.ensures).cases in
    c.from_residual-in_err-read_formula-2.ensures
    ∙ integrity_refused xs (all_there xs _ _ c.from.ensures c.from-2.ensures _ _ s (omega arith) _ _ i)
    (sym c.in_err-read_formula-2.was ∙ c.read_formula-2.ensures
    ∙ ap read_formula (integrity_part xs _ _ c.from.ensures c.from-2.ensures _ _ s (omega arith) _ _ i))

pub returns : goal.returns
returns c =
    let xs = c.args.s.now in
    let s = (c.in_ok-secrecy.ensures).cases in
    let i = (c.in_ok-integrity.ensures).cases in
    ap (λ (k : ℕ). Some (record { secrecy = c.in_ok-read_formula.field-0; integrity = c.in_ok-read_formula-2.field-0 }, k))
    (counted xs _ _ c.from.ensures c.from-2.ensures _ _ s (omega arith) _ _ i)
    ∙ both_read xs (all_there xs _ _ c.from.ensures c.from-2.ensures _ _ s (omega arith) _ _ i) _ _
    (sym c.in_ok-read_formula.was ∙ c.read_formula.ensures ∙ ap read_formula (secrecy_part xs _ _ c.from.ensures c.from-2.ensures _ _ s))
    (sym c.in_ok-read_formula-2.was ∙ c.read_formula-2.ensures
    ∙ ap read_formula (integrity_part xs _ _ c.from.ensures c.from-2.ensures _ _ s (omega arith) _ _ i))
