-- The loop over the labels of a file: what is left of its lines. Assumes nothing.
use mathlib.Core.List.{List, [], ◌++◌}
use mathlib.Core.Path.{◌≡◌, sym, ap, ap₂, ◌∙◌}
use Prim.Native.Nat.{ℕ, suc, ◌+◌, ◌-◌, ◌≤◌, ◌<◌}
use native.Mathlib.Numerals.{add-one}
use native.Mathlib.Omega.{arith}
use lib.ListN.{length, get_or, take, replicate, length-append, length-replicate}
use Rattle.labels.specs.declared.Label.{Label}
use Rattle.model.specs.FileLabels.{label_in}
use Rattle.std.proofs.lemmas.List.{length-take, get_or_default, get_or-take}
use Rattle.labels.specs.Order.{no_label}
use Rattle.file_sections.specs.Labels.{label_array}
use Rattle.file_sections.specs.Sections.{or_none}
use Rattle.script_file.specs.Sections.{file_labels}
use Rattle.script_file.specs.declared.script.Script.{Script}
use Rattle.script_file.proofs.Answers.{within-limits}
use Rattle.view.specs.Reading.{file_view}
use Rattle.lines.specs.Lines.{line, lines}

module _ (bs : List ℕ) (n i : ℕ) where
  -- label i's line, that of v, and those behind it
  pub next_line : i < n → {v : List ℕ} → v ≡ file_view bs i → lines bs (n - i) i ≡ line v ++ lines bs (n - (i + 1)) (i + 1)
  unfolding lines
  next_line h e =
      ap (λ (k : ℕ). lines bs k i) (let f : n - i ≡ suc (n - (i + 1)) = omega arith in f)
      ∙ ap₂ (λ (v : List ℕ) (k : ℕ). line v ++ lines bs (n - (i + 1)) k) (sym e) (sym (add-one i))

  pub no_line : n ≤ i → lines bs (n - i) i ≡ []
  unfolding lines
  no_line h = ap (λ (k : ℕ). lines bs k i) (let z : n - i ≡ 0 = omega arith in z)

-- a file that loads has at most as many labels as there is room for
pub few : (s : Script) → s.header.labels.count ≤ 32
few s = rw s.loads.numbers (within-limits s.file.now s.loads.none).labels

array_long : (ls : List Label) → 32 ≤ length (label_array ls)
unfolding label_array
array_long ls =
    let e = length-append ls (replicate (32 - length ls) no_label) in
    let f = length-replicate (32 - length ls) no_label in
    omega arith

pub all_held : (s : Script) → s.header.labels.count ≤ length s.labels.now
all_held s = rw s.loads.labels (omega (arith, few s, array_long (or_none (file_labels s.file.now))))

-- one of the first n labels, whatever stands past their end
pub label_read : (ls : List Label) (n i : ℕ) (d : Label) → i < length (take n ls) → get_or (take n ls) i d ≡ label_in ls i
unfolding label_in
label_read ls n i d h =
    let e = length-take n ls in
    get_or-take n ls i d (omega arith) ∙ get_or_default ls i d _ (omega arith)
