-- What reading an entry gives, by the tests that the reader makes. Assumes nothing.
use mathlib.Core.Path.{◌≡◌, refl, sym, ap, ap₂, ◌∙◌}
use mathlib.Core.Bool.{Bool, true, false, cond, ◌&&◌}
use mathlib.Core.List.{List}
use Prim.Native.Nat.{ℕ, ◌+◌, ◌-◌, ◌≤◌, ◌<◌}
use native.Mathlib.Omega.{arith}
use Rattle.std.specs.Prelude.{Option, Some, None}
use lib.Dec.{T, leb, leb→le, le→leb}
use lib.ListN.{length, take, drop, get_or, length-drop}
use lib.Seq.{length-take-le, drop-drop}
use borrow.Author.Rules.{part_to_end}
use Rattle.std.specs.List.{IsSplitAt}
use Rattle.formulas.specs.Formula.{table}
use Rattle.formulas.specs.Normal.{canonical}
use Rattle.formulas.proofs.Tests.{T_and, T_left, T_right, T_same, T_eq, T_true}
use Rattle.labels.specs.Tables.{principals, in_words}
use Rattle.labels.specs.Order.{label}
use Rattle.label_entries.specs.Entries.{secrecy_masks, integrity_masks, entry_length, well_formed_over, read_entry_over, read_entry, read_formula}
use Rattle.labels.specs.declared.Table.{Table}
use Rattle.labels.specs.declared.Label.{Label}

pub record WellFormed (xs : List ℕ) : Type 0 where
  pub counts : 2 ≤ length xs
  pub few_secrecy : get_or xs 0 0 ≤ 70
  pub few_integrity : get_or xs 1 0 ≤ 70
  pub whole : entry_length xs ≤ length xs
  pub secrecy : T (canonical principals (secrecy_masks xs))
  pub integrity : T (canonical principals (integrity_masks xs))

-- xs starts with the entry of l, of n bytes
pub record Reads (xs : List ℕ) (l : Label) (n : ℕ) : Type 0 where
  pub well : WellFormed xs
  pub is_label : label (secrecy_masks xs) (integrity_masks xs) ≡ l
  pub is_length : entry_length xs ≡ n

module _ (a b c d e f : Bool) where
  pub all_six : T a → T b → T c → T d → T e → T f → T (a && b && c && d && e && f)
  all_six p q r s t u =
      T_and (a && b && c && d && e) f (T_and (a && b && c && d) e (T_and (a && b && c) d (T_and (a && b) c (T_and a b p q) r) s) t) u

  pub each_of_six : T (a && b && c && d && e && f) → T a × T b × T c × T d × T e × T f
  each_of_six p =
      let p5 = T_left (a && b && c && d && e) f p in
      let p4 = T_left (a && b && c && d) e p5 in
      let p3 = T_left (a && b && c) d p4 in
      let p2 = T_left (a && b) c p3 in
      (T_left a b p2, T_right a b p2, T_right (a && b) c p3, T_right (a && b && c) d p4, T_right (a && b && c && d) e p5, T_right (a && b && c && d && e) f p)

module _ (xs : List ℕ) where
  well_formed : T (well_formed_over principals xs) → WellFormed xs
  unfolding well_formed_over
  well_formed t =
      let w = each_of_six (leb 2 (length xs)) (leb (get_or xs 0 0) 70) (leb (get_or xs 1 0) 70) (leb (entry_length xs) (length xs))
      (canonical principals (secrecy_masks xs)) (canonical principals (integrity_masks xs)) t in
      record {
        counts = leb→le 2 (length xs) w.0;
        few_secrecy = leb→le (get_or xs 0 0) 70 w.1;
        few_integrity = leb→le (get_or xs 1 0) 70 w.2;
        whole = leb→le (entry_length xs) (length xs) w.3;
        secrecy = w.4;
        integrity = w.5;
      }

  passes : WellFormed xs → T (well_formed_over principals xs)
  unfolding well_formed_over
  passes w =
      all_six (leb 2 (length xs)) (leb (get_or xs 0 0) 70) (leb (get_or xs 1 0) 70) (leb (entry_length xs) (length xs))
      (canonical principals (secrecy_masks xs)) (canonical principals (integrity_masks xs))
      (le→leb 2 (length xs) w.counts) (le→leb (get_or xs 0 0) 70 w.few_secrecy) (le→leb (get_or xs 1 0) 70 w.few_integrity)
      (le→leb (entry_length xs) (length xs) w.whole) w.secrecy w.integrity

  abbrev found : Option (Label × ℕ)
  found = Some (label (secrecy_masks xs) (integrity_masks xs), entry_length xs)

  pub accepted : WellFormed xs → found ≡ read_entry xs
  unfolding read_entry_over
  accepted w = sym (ap (λ (b : Bool). cond b found None) (T_true (well_formed_over principals xs) (passes w)))

  pub refused : (WellFormed xs → ⊥) → None ≡ read_entry xs
  unfolding read_entry_over
  refused f = sym (ap (λ (b : Bool). cond b found None) (T_same (well_formed_over principals xs) false (λ t. f (well_formed t)) (λ t. absurd t)))

  -- what is read is what a well_formed entry holds
  pub reads : (l : Label) (n : ℕ) → read_entry xs ≡ Some (l, n) → Reads xs l n
  unfolding read_entry_over
  reads l n e = go (well_formed_over principals xs) refl e
    where
      go : (b : Bool) → well_formed_over principals xs ≡ b → cond b found None ≡ Some (l, n) → Reads xs l n
      go true w r =
          let same : (label (secrecy_masks xs) (integrity_masks xs), entry_length xs) ≡ (l, n) = cc in
          record { well = well_formed (T_eq (sym w) tt); is_label = ap (λ (p : Label × ℕ). p.0) same; is_length = ap (λ (p : Label × ℕ). p.1) same }
      go false w r = let z : ◌≡◌ {A = ℕ} 0 1 = cc in absurd (omega arith)

-- ---- the parts of the slice that the reader takes: the masks behind the two counts, m and n

module _ (xs : List ℕ) (m n : ℕ) (em : m ≡ get_or xs 0 0) (en : n ≡ get_or xs 1 0)
    (S R : List ℕ) (s : IsSplitAt (take (length xs - 2) (drop 2 xs)) m S R) where
  pub secrecy_part : S ≡ secrecy_masks xs
  secrecy_part = s.1 ∙ ap₂ (λ (k : ℕ) (l : List ℕ). take k l) em (part_to_end xs 2)

  rest_part : R ≡ drop (2 + get_or xs 0 0) xs
  rest_part = s.2 ∙ ap₂ (λ (k : ℕ) (l : List ℕ). drop k l) em (part_to_end xs 2) ∙ drop-drop (get_or xs 0 0) 2 xs

  rest_length : length R + m ≡ length xs - 2
  rest_length = omega (arith, s.4, ap length (part_to_end xs 2), length-drop 2 xs)

  pub cut : length R < n → None ≡ read_entry xs
  cut h = refused xs (λ w. omega (arith, rest_length, w.counts, w.whole, em, en))

  module _ (two : 2 ≤ length xs) (I Q : List ℕ) (i : IsSplitAt R n I Q) where
    pub integrity_part : I ≡ integrity_masks xs
    integrity_part = i.1 ∙ ap₂ (λ (k : ℕ) (l : List ℕ). take k l) en rest_part

    pub all_there : entry_length xs ≤ length xs
    all_there = omega (arith, rest_length, i.0, em, en)

    pub counted : 2 + length S + length I ≡ entry_length xs
    counted = omega (arith, s.3, i.3, em, en)

-- ---- the formulas of an entry

record Listed (ms : List ℕ) (t : Table) : Type 0 where
  few : length ms ≤ 70
  canon : T (canonical principals ms)
  is_table : t ≡ in_words (table principals ms)

module _ (ms : List ℕ) where
  by_tests : (b : Bool) → (leb (length ms) 70 && canonical principals ms) ≡ b → cond b (Some (in_words (table principals ms))) None ≡ read_formula ms
  unfolding read_formula
  by_tests b e = ap (λ (x : Bool). cond x (Some (in_words (table principals ms))) None) (sym e)

  fails : (T (leb (length ms) 70) → T (canonical principals ms) → ⊥) → None ≡ read_formula ms
  fails f =
      by_tests false (T_same (leb (length ms) 70 && canonical principals ms) false (λ t. f (T_left (leb (length ms) 70) (canonical principals ms) t) (T_right (leb (length ms) 70) (canonical principals ms) t)) (λ t. absurd t))

  pub formula_long : 70 < length ms → None ≡ read_formula ms
  formula_long h = fails (λ few _. let e = leb→le (length ms) 70 few in omega arith)

  pub formula_bad : canonical principals ms ≡ false → None ≡ read_formula ms
  formula_bad e = fails (λ _ canon. T_eq e canon)

  pub formula_good : length ms ≤ 70 → canonical principals ms ≡ true → (t : Table) → t ≡ in_words (table principals ms) → Some t ≡ read_formula ms
  formula_good few e t q =
      ap Some q
      ∙ by_tests true (T_true (leb (length ms) 70 && canonical principals ms) (T_and (leb (length ms) 70) (canonical principals ms) (le→leb (length ms) 70 few) (T_eq (sym e) tt)))

  formula_read : (t : Table) → Some t ≡ read_formula ms → Listed ms t
  unfolding read_formula
  formula_read t e = go (leb (length ms) 70 && canonical principals ms) refl e
    where
      go : (b : Bool) → (leb (length ms) 70 && canonical principals ms) ≡ b → Some t ≡ cond b (Some (in_words (table principals ms))) None → Listed ms t
      go true w r =
          let p = T_eq (sym w) tt in
          record {
            few = leb→le (length ms) 70 (T_left (leb (length ms) 70) (canonical principals ms) p);
            canon = T_right (leb (length ms) 70) (canonical principals ms) p;
            is_table = cc;
          }
      go false w r = let z : ◌≡◌ {A = ℕ} 0 1 = cc in absurd (omega arith)

  formula_refused : None ≡ read_formula ms → length ms ≤ 70 → T (canonical principals ms) → ⊥
  unfolding read_formula
  formula_refused e few canon =
      let p = T_and (leb (length ms) 70) (canonical principals ms) (le→leb (length ms) 70 few) canon in
      let r : None ≡ Some (in_words (table principals ms)) = e ∙ ap (λ (b : Bool). cond b (Some (in_words (table principals ms))) None) (T_true (leb (length ms) 70 && canonical principals ms) p) in
      let z : ◌≡◌ {A = ℕ} 0 1 = cc in omega arith

module _ (xs : List ℕ) (whole : entry_length xs ≤ length xs) where
  secrecy_count : length (secrecy_masks xs) ≡ get_or xs 0 0
  secrecy_count = length-take-le (get_or xs 0 0) (drop 2 xs) (let e = length-drop 2 xs in omega arith)

  integrity_count : length (integrity_masks xs) ≡ get_or xs 1 0
  integrity_count = length-take-le (get_or xs 1 0) (drop (2 + get_or xs 0 0) xs) (let e = length-drop (2 + get_or xs 0 0) xs in omega arith)

  pub secrecy_refused : None ≡ read_formula (secrecy_masks xs) → None ≡ read_entry xs
  secrecy_refused e = refused xs (λ w. formula_refused (secrecy_masks xs) e (let k = secrecy_count in omega (arith, w.few_secrecy)) w.secrecy)

  pub integrity_refused : None ≡ read_formula (integrity_masks xs) → None ≡ read_entry xs
  integrity_refused e = refused xs (λ w. formula_refused (integrity_masks xs) e (let k = integrity_count in omega (arith, w.few_integrity)) w.integrity)

  pub both_read : (s i : Table) → Some s ≡ read_formula (secrecy_masks xs) → Some i ≡ read_formula (integrity_masks xs)
      → Some (record { secrecy = s; integrity = i }, entry_length xs) ≡ read_entry xs
  both_read s i e f =
      let p = formula_read (secrecy_masks xs) s e in
      let q = formula_read (integrity_masks xs) i f in
      ap₂ (λ (x y : Table). Some (record { secrecy = x; integrity = y }, entry_length xs)) p.is_table q.is_table
      ∙ accepted xs (record {
        counts = omega (arith, whole);
        few_secrecy = let k = secrecy_count in omega (arith, p.few);
        few_integrity = let k = integrity_count in omega (arith, q.few);
        whole = whole;
        secrecy = p.canon;
        integrity = q.canon;
      })
