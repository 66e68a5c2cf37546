-- The label section, one entry at a time, and the labels that it gives.
use mathlib.Core.List.{List, [], ◌∷◌, ◌++◌, append_assoc, append-nil}
use mathlib.Core.Path.{◌≡◌, refl, sym, ap, ap₂, ◌∙◌}
use Prim.Native.Nat.{ℕ, suc, ◌+◌, ◌-◌, ◌≤◌, ◌<◌}
use native.Mathlib.Omega.{arith}
use borrow.Author.Rules.{part_to_end}
use lib.ListN.{length, take, drop, set, replicate, length-drop, drop_of_length-le}
use lib.Seq.{take-suc-set, drop-drop, length-take-le}
use lib.Dec.{eqb}
use mathlib.Core.Bool.{Bool, true, false}
use Rattle.std.specs.Prelude.{Option, Some, None}
use Rattle.std.specs.Bool.{then_some}
use Rattle.std.proofs.lemmas.List.{drop-replicate}
use borrow.Author.Tests.{eqb-true, eqb-false}
use Rattle.label_entries.specs.Entries.{read_entry}
use Rattle.label_entries.proofs.RoundTrip.{read_within}
use Rattle.labels.specs.Order.{no_label}
use Rattle.labels.specs.declared.Label.{Label}
use Rattle.file_sections.specs.Sections.{cons_label, labels_after, read_labels_over, read_labels}
use Rattle.file_sections.specs.Labels.{label_array, labels_found}

-- the labels so far, before those that are left
abbrev pub labels_with : List Label → Option (List Label) → Option (List Label)
labels_with ls None = None
labels_with ls (Some more) = Some (ls ++ more)

with_cons : (ls : List Label) (l : Label) (o : Option (List Label)) → labels_with ls (cons_label l o) ≡ labels_with (ls ++ l ∷ []) o
with_cons ls l None = refl
with_cons ls l (Some more) = ap (λ (x : List Label). Some x) (sym (append_assoc ls (l ∷ []) more))

-- one entry, which is the next of those that are left of n
module _ (n i at : ℕ) (ls : List Label) (bs : List ℕ) (o : Option (Label × ℕ))
    (is : o ≡ read_entry (take (length bs - at) (drop at bs))) (inside : at ≤ length bs) where
  entry : read_entry (drop at bs) ≡ o
  entry = sym (is ∙ ap read_entry (part_to_end bs at))

  next : i < n → read_labels (n - i) (drop at bs) ≡ labels_after (λ k. read_labels (n - (i + 1)) (drop k (drop at bs))) o
  unfolding read_labels_over
  next h =
      ap (λ (k : ℕ). read_labels k (drop at bs)) (let e : n - i ≡ suc (n - (i + 1)) = omega arith in e)
      ∙ ap (labels_after (λ k. read_labels (n - (i + 1)) (drop k (drop at bs)))) entry

  pub malformed : i < n → o ≡ None → labels_with ls (read_labels (n - i) (drop at bs)) ≡ None
  malformed h e = ap (labels_with ls) (next h ∙ ap (labels_after (λ k. read_labels (n - (i + 1)) (drop k (drop at bs)))) e)

  module _ (l : Label) (k : ℕ) (e : o ≡ Some (l, k)) where
    pub within : at + k ≤ length bs
    within = omega (arith, (read_within (drop at bs) l k (entry ∙ e)).1, length-drop at bs)

    pub more : i < n → i < length ls
        → labels_with (take i ls) (read_labels (n - i) (drop at bs)) ≡ labels_with (take (i + 1) (set ls i l)) (read_labels (n - (i + 1)) (drop (at + k) bs))
    more h q =
        ap (labels_with (take i ls)) (next h ∙ ap (labels_after (λ m. read_labels (n - (i + 1)) (drop m (drop at bs)))) e)
        ∙ with_cons (take i ls) l (read_labels (n - (i + 1)) (drop k (drop at bs)))
        ∙ ap₂ (λ (xs : List Label) (r : List ℕ). labels_with xs (read_labels (n - (i + 1)) r))
        (sym (ap (λ (m : ℕ). take m (set ls i l)) (let z : i + 1 ≡ suc i = omega arith in z) ∙ take-suc-set ls i l q))
        (drop-drop k at bs)

-- ── the array that is filled ──

module _ (n : ℕ) (ls : List Label) (e : ls ≡ label_array []) (h : n ≤ 32) where
  -- its places for labels are as many as there are
  pub places : length (take n ls) ≡ n
  unfolding label_array
  places = length-take-le n ls (omega (arith, ap length e))

  -- with the labels in them
  pub filled : (xs : List Label) → length xs ≡ length (take n ls) → xs ++ drop n ls ≡ label_array xs
  unfolding label_array
  filled xs q =
      let s : length xs ≡ n = q ∙ places in
      ap (λ (r : List Label). xs ++ r) (ap (drop n) e ∙ drop-replicate n 32 no_label ∙ ap (λ (m : ℕ). replicate (32 - m) no_label) (sym s))

pub bytes_left : (xs : List Label) (bs : List ℕ) → 0 < length bs → labels_with xs (read_labels 0 bs) ≡ None
unfolding read_labels_over
bytes_left xs [] h = absurd (omega arith)
bytes_left xs (b ∷ bs) h = refl

-- no label is left to read: the bytes are at their end, or the section is malformed
module _ (bs : List ℕ) (at : ℕ) (inside : at ≤ length bs) (xs a : List Label) (f : a ≡ label_array xs)
    (o : Option (List Label)) (e : o ≡ labels_with xs (read_labels 0 (drop at bs))) where
  pub ended : then_some (eqb at (length bs)) a ≡ labels_found o
  unfolding read_labels_over
  ended = by (eqb at (length bs)) refl where
    by : (b : Bool) → eqb at (length bs) ≡ b → then_some b a ≡ labels_found o
    by true q =
        let over = eqb-true at (length bs) q in
        ap (λ (x : List Label). Some x) (f ∙ ap label_array (sym (append-nil xs)))
        ∙ ap labels_found (sym (e ∙ ap (λ (r : List ℕ). labels_with xs (read_labels 0 r)) (drop_of_length-le bs (omega (arith, over)))))
    by false q =
        let apart = eqb-false at (length bs) q in
        ap labels_found (sym (e ∙ bytes_left xs (drop at bs) (omega (arith, length-drop at bs, apart))))
