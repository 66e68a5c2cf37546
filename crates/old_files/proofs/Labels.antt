-- The labels of a file, plain or a day, that are well formed over six principals: over eight they are so too, and each is the
-- repeated one.
use Rattle.std.specs.Prelude.{Option, None, Some}
use mathlib.Core.Bool.{true}
use mathlib.Core.List.{List, map}
use mathlib.Core.Path.{◌≡◌, refl, sym, ap, ap₂, ◌∙◌}
use Prim.Native.Nat.{ℕ}
use native.Mathlib.Omega.{arith}
use lib.Dec.{eqb}
use lib.ListN.{get_or}
use Rattle.labels.specs.Tables.{principals}
use Rattle.labels.specs.Order.{flows, no_label}
use Rattle.labels.specs.declared.Label.{Label}
use Rattle.file_sections.specs.Sections.{Sections, or_none, label_bytes_of, labels_over, label_of_over, label_of}
use Rattle.file_sections.specs.Checks.{present, labels_pass}
use Rattle.old_files.specs.Repeating.{repeated}
use Rattle.old_files.proofs.Tables.{low}
use Rattle.old_files.proofs.Order.{flow_repeated}
use Rattle.old_files.proofs.Entries.{LabelsAlike, labels_alike, at_repeated, at_low}

some_labels : (o : Option (List Label)) → present o ≡ true → (ls : List Label) × (o ≡ Some ls)
some_labels None e = let z : ◌≡◌ {A = ℕ} 0 1 = cc in absurd (omega arith)
some_labels (Some ls) e = (ls, refl)

pub flows_alike : (l m : Label) → flows (repeated l) (repeated m) ≡ flows (low l) (low m)
flows_alike l m = ap (λ (n : ℕ). eqb n 0) (flow_repeated l m)

module _ (s : Sections) (bs : List ℕ) (passes : labels_pass 6 s bs ≡ true) where
  listed : (ls : List Label) × (labels_over 6 s bs ≡ Some ls)
  listed = some_labels (labels_over 6 s bs) passes

  alike : LabelsAlike s.labels (label_bytes_of s bs) listed.0
  unfolding labels_over
  alike = labels_alike s.labels (label_bytes_of s bs) listed.0 listed.1

  over_eight : labels_over principals s bs ≡ Some (map repeated listed.0)
  unfolding labels_over
  over_eight = alike.over_eight

  pub labels_still_pass : labels_pass principals s bs ≡ true
  labels_still_pass = ap present over_eight

  -- label i over six
  abbrev six : ℕ → Label
  six = label_of_over 6 s bs

  six_is : (i : ℕ) → six i ≡ get_or listed.0 i no_label
  unfolding label_of_over
  six_is i = ap (λ (o : Option (List Label)). get_or (or_none o) i no_label) listed.1

  -- has nothing above its lowest words
  pub six_low : (i : ℕ) → low (six i) ≡ six i
  six_low i = ap low (six_is i) ∙ at_low listed.0 alike.are_low i ∙ sym (six_is i)

  pub label_alike : (i : ℕ) → label_of s bs i ≡ repeated (six i)
  unfolding label_of_over
  label_alike i =
      ap (λ (o : Option (List Label)). get_or (or_none o) i no_label) over_eight ∙ at_repeated listed.0 i ∙ ap repeated (sym (six_is i))

  -- one of them flows to another as before
  pub still_flows : (i j : ℕ) → flows (label_of s bs i) (label_of s bs j) ≡ flows (six i) (six j)
  still_flows i j = ap₂ flows (label_alike i) (label_alike j) ∙ flows_alike (six i) (six j) ∙ ap₂ flows (six_low i) (six_low j)
