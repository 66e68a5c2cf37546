-- What is written of how a run ended: as the reader is shown it, or zeros. Assumes nothing.
use mathlib.Core.Path.{◌≡◌, sym, ap, ap₂, ◌∙◌}
use mathlib.Core.Bool.{Bool, true, false}
use mathlib.Core.List.{List, ◌++◌}
use Prim.Native.Nat.{ℕ, ◌-◌}
use lib.ListN.{replicate}
use Rattle.labels.specs.Tables.{principals}
use Rattle.labels.specs.Order.{flows}
use Rattle.labels.specs.declared.Label.{Label}
use Rattle.view_fields.specs.Fields.{label_field, ending_number, result_field}
use Rattle.view_fields.specs.Writing.{over, numbers, triple_field}
use Rattle.view_fields.specs.declared.Triple.{Triple}
use Rattle.view.specs.Layout.{counts, final}
use Rattle.view.specs.Writing.{observes, closing}
use Rattle.model.specs.declared.Finished.{Finished}
use Rattle.view.proofs.Widths.{counts_shown, counts_hidden, final_shown, final_hidden}

module _ (reader : Label) (f : Finished) (out : List ℕ) {b : Bool} (e : b ≡ flows f.label reader) where
  pub counts_written : (s : ℕ) → b ≡ true → {x y : ℕ} → x ≡ ending_number f.ending → y ≡ s - f.steps
      → over (numbers x y f.next) out ≡ over (counts (observes reader) s f.ending (closing f)) out
  counts_written s t p q =
      ap (λ (v : List ℕ). over v out) (ap₂ (λ (x y : ℕ). numbers x y f.next) p q
      ∙ sym (counts_shown (observes reader) f.ending (closing f) s (sym e ∙ t)))

  pub counts_blank : (s : ℕ) → b ≡ false → over (replicate 6 0) out ≡ over (counts (observes reader) s f.ending (closing f)) out
  counts_blank s t = ap (λ (v : List ℕ). over v out) (sym (counts_hidden (observes reader) f.ending (closing f) s (sym e ∙ t)))

  pub final_written : b ≡ true → (r : Triple) → triple_field r ≡ result_field principals f.ending
      → over (triple_field r ++ (label_field principals f.label ++ label_field principals f.clearance)) out
      ≡ over (final principals (observes reader) f.ending (closing f)) out
  final_written t r p =
      ap (λ (v : List ℕ). over v out)
      (ap (λ (v : List ℕ). v ++ (label_field principals f.label ++ label_field principals f.clearance)) p
      ∙ sym (final_shown (observes reader) f.ending (closing f) (sym e ∙ t)))

  pub final_blank : b ≡ false → over (replicate 194 0) out ≡ over (final principals (observes reader) f.ending (closing f)) out
  final_blank t = ap (λ (v : List ℕ). over v out) (sym (final_hidden (observes reader) f.ending (closing f) (sym e ∙ t)))
