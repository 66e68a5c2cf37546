-- A label entry that is well formed over six principals is so over eight, and has the repeated label; and so all of a section.
use Rattle.std.specs.Prelude.{Option, None, Some}
use mathlib.Core.Bool.{Bool, true, false, cond}
use mathlib.Core.List.{List, [], ◌∷◌, map}
use mathlib.Core.Path.{◌≡◌, refl, sym, ap, ap₂, ◌∙◌}
use Prim.Native.Nat.{ℕ, zero, suc}
use native.Mathlib.Omega.{arith}
use lib.Dec.{T, leb, leb→le, le→leb}
use lib.ListN.{length, drop, get_or, get_or-map}
use Rattle.formulas.specs.Normal.{canonical}
use Rattle.formulas.proofs.Canonical.{canon_lt, canon_asc, canon_apart, canon_of}
use Rattle.formulas.proofs.Tests.{T_eq, T_true}
use Rattle.labels.specs.Tables.{principals}
use Rattle.labels.specs.Order.{label_over, no_label}
use Rattle.labels.specs.declared.Label.{Label}
use Rattle.label_entries.specs.Entries.{secrecy_masks, integrity_masks, entry_length, well_formed_over, read_entry_over}
use Rattle.label_entries.proofs.Reading.{all_six, each_of_six}
use Rattle.file_sections.specs.Sections.{cons_label, labels_after, read_labels_over}
use Rattle.old_files.specs.Repeating.{repeated}
use Rattle.old_files.proofs.Tables.{low, label_low, label_repeated}

-- a mask of six principals is one of eight
canonical_wider : (cs : List ℕ) → T (canonical 6 cs) → T (canonical principals cs)
canonical_wider cs t =
    canon_of principals cs (λ c m. let h = canon_lt 6 cs t c m in omega arith) (canon_asc 6 cs t) (canon_apart 6 cs t)

more : (n : ℕ) → T (leb n 20) → T (leb n 70)
more n t = let h = leb→le n 20 t in le→leb n 70 (omega arith)

-- what an entry that is read over six gives over eight
pub record ReadAlike (xs : List ℕ) (l : Label) (k : ℕ) : Type 0 where
  pub over_eight : read_entry_over principals xs ≡ Some (repeated l, k)
  pub is_low : low l ≡ l

module _ (xs : List ℕ) where
  parts : T (well_formed_over 6 xs) → T (leb 2 (length xs)) × T (leb (get_or xs 0 0) 20) × T (leb (get_or xs 1 0) 20) × T (leb (entry_length xs) (length xs))
      × T (canonical 6 (secrecy_masks xs)) × T (canonical 6 (integrity_masks xs))
  unfolding well_formed_over
  parts t =
      each_of_six (leb 2 (length xs)) (leb (get_or xs 0 0) 20) (leb (get_or xs 1 0) 20) (leb (entry_length xs) (length xs))
      (canonical 6 (secrecy_masks xs)) (canonical 6 (integrity_masks xs)) t

  wider : T (well_formed_over 6 xs) → T (well_formed_over principals xs)
  unfolding well_formed_over
  wider t =
      let w = parts t in
      all_six (leb 2 (length xs)) (leb (get_or xs 0 0) 70) (leb (get_or xs 1 0) 70) (leb (entry_length xs) (length xs))
      (canonical principals (secrecy_masks xs)) (canonical principals (integrity_masks xs))
      w.0 (more (get_or xs 0 0) w.1) (more (get_or xs 1 0) w.2) w.3 (canonical_wider (secrecy_masks xs) w.4) (canonical_wider (integrity_masks xs) w.5)

  abbrev found : ℕ → Option (Label × ℕ)
  found n = Some (label_over n (secrecy_masks xs) (integrity_masks xs), entry_length xs)

  pub entry_alike : (l : Label) (k : ℕ) → read_entry_over 6 xs ≡ Some (l, k) → ReadAlike xs l k
  unfolding read_entry_over
  entry_alike l k e = go (well_formed_over 6 xs) refl e
    where
      go : (b : Bool) → well_formed_over 6 xs ≡ b → cond b (found 6) None ≡ Some (l, k) → ReadAlike xs l k
      go true w r =
          let t = T_eq (sym w) tt in
          let pair : ◌≡◌ {A = Label × ℕ} (label_over 6 (secrecy_masks xs) (integrity_masks xs), entry_length xs) (l, k) = cc in
          let is = ap (λ (p : Label × ℕ). p.0) pair in
          let long = ap (λ (p : Label × ℕ). p.1) pair in
          record {
            over_eight =
                ap (λ (b : Bool). cond b (found principals) None) (T_true (well_formed_over principals xs) (wider t))
                ∙ ap₂ (λ (m : Label) (n : ℕ). Some (m, n)) (label_repeated (secrecy_masks xs) (integrity_masks xs) (parts t).4 (parts t).5 ∙ ap repeated is) long;
            is_low = ap low (sym is) ∙ label_low (secrecy_masks xs) (integrity_masks xs) ∙ is;
          }
      go false w r = let z : ◌≡◌ {A = ℕ} 0 1 = cc in absurd (omega arith)

-- ── a section ──

pub record LabelsAlike (k : ℕ) (bs : List ℕ) (ls : List Label) : Type 0 where
  pub over_eight : read_labels_over principals k bs ≡ Some (map repeated ls)
  pub are_low : map low ls ≡ ls

-- of the entries behind the first, of whatever length that is
abbrev Behind : ℕ → List ℕ → Type 0
Behind k bs = (n : ℕ) (ms : List Label) → read_labels_over 6 k (drop n bs) ≡ Some ms → LabelsAlike k (drop n bs) ms

pub labels_alike : (k : ℕ) (bs : List ℕ) (ls : List Label) → read_labels_over 6 k bs ≡ Some ls → LabelsAlike k bs ls
unfolding read_labels_over
labels_alike zero [] ls e = let is : ls ≡ [] = cc in record { over_eight = ap (λ (ms : List Label). Some (map repeated ms)) (sym is); are_low = ap (map low) is ∙ sym is }
labels_alike zero (b ∷ bs) ls e = let z : ◌≡◌ {A = ℕ} 0 1 = cc in absurd (omega arith)
labels_alike (suc k) bs ls e = by_entry (read_entry_over 6 bs) refl (λ n ms. labels_alike k (drop n bs) ms) e
  where
    with_first : (l : Label) (n : ℕ) → read_entry_over 6 bs ≡ Some (l, n) → Behind k bs → (o : Option (List Label)) → read_labels_over 6 k (drop n bs) ≡ o → cons_label l o ≡ Some ls → LabelsAlike (suc k) bs ls
    with_first l n r b None f c = let z : ◌≡◌ {A = ℕ} 0 1 = cc in absurd (omega arith)
    with_first l n r b (Some ms) f c =
        let is : l ∷ ms ≡ ls = cc in
        let first = entry_alike bs l n r in
        let rest = b n ms f in
        record {
          over_eight =
              ap (labels_after (λ i. read_labels_over principals k (drop i bs))) first.over_eight ∙ ap (cons_label (repeated l)) rest.over_eight
              ∙ ap (λ (xs : List Label). Some (map repeated xs)) is;
          are_low = ap (map low) (sym is) ∙ ap₂ (λ (m : Label) (xs : List Label). m ∷ xs) first.is_low rest.are_low ∙ is;
        }

    by_entry : (x : Option (Label × ℕ)) → read_entry_over 6 bs ≡ x → Behind k bs → labels_after (λ i. read_labels_over 6 k (drop i bs)) x ≡ Some ls → LabelsAlike (suc k) bs ls
    by_entry (Some (l, n)) r b c = with_first l n r b (read_labels_over 6 k (drop n bs)) refl c
    by_entry None r b c = let z : ◌≡◌ {A = ℕ} 0 1 = cc in absurd (omega arith)

-- ── by index ──

pub at_repeated : (ls : List Label) (i : ℕ) → get_or (map repeated ls) i no_label ≡ repeated (get_or ls i no_label)
at_repeated ls i = get_or-map repeated ls i no_label

pub at_low : (ls : List Label) → map low ls ≡ ls → (i : ℕ) → low (get_or ls i no_label) ≡ get_or ls i no_label
at_low ls e i = sym (get_or-map low ls i no_label) ∙ ap (λ (ms : List Label). get_or ms i no_label) e
