-- `label_entries::contains` meets its contract. Assumes nothing.
use mathlib.Core.Path.{ap, ◌∙◌}
use native.Mathlib.Omega.{arith}
use Rattle.formulas.specs.Bits.{bit}
use Rattle.labels.specs.Tables.{whole}
use Rattle.label_entries.proofs.Words.{in_word0, in_word1, in_word2, in_word3}
use Rattle.label_entries.proofs.contains.Goals as goal

pub returns-then-x-lt64 : goal.returns-then-x-lt64
returns-then-x-lt64 c =
    c.has.ensures
    ∙ in_word0 c.args.t (record { fits0 = omega arith; fits1 = omega arith; fits2 = omega arith; fits3 = omega arith })
    _ (omega arith)
    ∙ ap (bit (whole c.args.t)) c.from-x.ensures

pub returns-then-x-lt128 : goal.returns-then-x-lt128
returns-then-x-lt128 c =
    c.has-then-x-lt128.ensures
    ∙ in_word1 c.args.t (record { fits0 = omega arith; fits1 = omega arith; fits2 = omega arith; fits3 = omega arith })
    _ (omega arith) (omega arith)
    ∙ ap (bit (whole c.args.t)) c.from-x.ensures

pub returns-then-x-lt192 : goal.returns-then-x-lt192
returns-then-x-lt192 c =
    c.has-then-x-lt192.ensures
    ∙ in_word2 c.args.t (record { fits0 = omega arith; fits1 = omega arith; fits2 = omega arith; fits3 = omega arith })
    _ (omega arith) (omega arith)
    ∙ ap (bit (whole c.args.t)) c.from-x.ensures

pub returns : goal.returns
returns c =
    c.has-2.ensures
    ∙ in_word3 c.args.t (record { fits0 = omega arith; fits1 = omega arith; fits2 = omega arith; fits3 = omega arith })
    _ (omega arith) (omega arith)
    ∙ ap (bit (whole c.args.t)) c.from-x.ensures
