-- The labels of a file as an array holds them.
use mathlib.Core.Bool.{true, false}
use mathlib.Core.List.{List, [], ◌∷◌, ◌++◌}
use mathlib.Core.Path.{◌≡◌, refl}
use Prim.Native.Nat.{ℕ, zero, suc}
use lib.ListN.{get_or, replicate}
use Rattle.labels.specs.Order.{no_label}
use Rattle.labels.specs.declared.Label.{Label}
use Rattle.model.specs.FileLabels.{label_in}
use Rattle.file_sections.specs.Sections.{Sections, labels_of, label_of, or_none, label_of_over}
use Rattle.file_sections.specs.Checks.{present}
use Rattle.file_sections.specs.Labels.{label_array, labels_found}
use Rattle.std.specs.Prelude.{Option, Some, None}

none_behind : (n i : ℕ) → get_or (replicate n no_label) i no_label ≡ no_label
none_behind zero i = refl
none_behind (suc n) zero = refl
none_behind (suc n) (suc i) = none_behind n i

padded_at : (ls : List Label) (n i : ℕ) → get_or (ls ++ replicate n no_label) i no_label ≡ get_or ls i no_label
padded_at [] n i = none_behind n i
padded_at (l ∷ ls) n zero = refl
padded_at (l ∷ ls) n (suc i) = padded_at ls n i

-- The array holds the labels, at any index.
pub array_at : (ls : List Label) (i : ℕ) → label_in (label_array ls) i ≡ get_or ls i no_label
unfolding label_in label_array
array_at ls i = padded_at ls _ i

pub array_is_labels : (s : Sections) (bs : List ℕ) (i : ℕ) → label_in (label_array (or_none (labels_of s bs))) i ≡ label_of s bs i
unfolding label_of_over
array_is_labels s bs i = array_at (or_none (labels_of s bs)) i

-- ── what a section gives: an array, or none where it is malformed ──

pub not_found : (o : Option (List Label)) → None ≡ labels_found o → present o ≡ false
not_found None e = refl
not_found (Some ls) e = absurd (cc)

pub found : (o : Option (List Label)) {ls : List Label} → Some ls ≡ labels_found o → (present o ≡ true) × (ls ≡ label_array (or_none o))
found None e = absurd (cc)
found (Some xs) {ls} e = (refl, cc)
