-- A table at six, repeated in four words, keeps flow answers, join and meet. So does cutting a label to its lowest words.
use mathlib.Core.Bool.{Bool, true, false, cond, ◌&&◌}
use mathlib.Core.Path.{◌≡◌, refl, ap₂}
use Prim.Native.Nat.{◌+◌}
use Rattle.formulas.specs.Formula.{implies}
use Rattle.labels.specs.Tables.{table_implies, lowest}
use Rattle.labels.specs.Order.{flow_test, join, meet}
use Rattle.labels.specs.declared.Table.{Table}
use Rattle.labels.specs.declared.Label.{Label}
use Rattle.relabelling.specs.Keeps.{Order, KeepsOrder}
use Rattle.old_files.specs.Repeating.{repeated_table, repeated}
use Rattle.old_files.proofs.Tables.{low}

-- the order of labels
abbrev pub order : Order
order = record { flow_test = flow_test; join = join; meet = meet }

-- the same by the lowest words alone, whatever stands above them
abbrev pub low_order : Order
low_order = record { flow_test = λ a b. flow_test (low a) (low b); join = join; meet = meet }

pub low_keeps : KeepsOrder low low_order order
unfolding join meet
low_keeps = record { keeps_flow = λ a b. refl; keeps_join = λ a b. refl; keeps_meet = λ a b. refl }

-- four times the same implication is one, with three that hold
implies_repeated : (a b : Table) → table_implies (repeated_table a) (repeated_table b) ≡ table_implies (lowest a.word0) (lowest b.word0)
unfolding table_implies implies
implies_repeated a b = each (implies a.word0 b.word0)
  where
    each : (t : Bool) → ((t && t) && (t && t)) ≡ ((t && true) && (true && true))
    each true = refl
    each false = refl

pub flow_repeated : (a b : Label) → flow_test (repeated a) (repeated b) ≡ flow_test (low a) (low b)
unfolding flow_test
flow_repeated a b =
    ap₂ (λ (s t : Bool). cond s 0 1 + cond t 0 2) (implies_repeated b.secrecy a.secrecy) (implies_repeated a.integrity b.integrity)

pub repeated_keeps : KeepsOrder repeated low_order order
unfolding join meet
repeated_keeps = record { keeps_flow = flow_repeated; keeps_join = λ a b. refl; keeps_meet = λ a b. refl }
