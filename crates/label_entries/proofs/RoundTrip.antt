-- Reading what was written gives the label and its length, and writing what was read gives the bytes that were read.
-- Assumes nothing.
use mathlib.Core.Path.{◌≡◌, refl, sym, ap, ap₂, ◌∙◌, subst}
use mathlib.Core.Bool.{Bool, true, false, cond}
use mathlib.Core.List.{List, [], ◌∷◌, ◌++◌, append_assoc}
use Prim.Native.Nat.{ℕ, ◌+◌, ◌≤◌}
use native.Mathlib.Omega.{arith}
use borrow.Author.Tests.{le-leb}
use Rattle.std.specs.Prelude.{Some, None}
use lib.Dec.{T}
use lib.ListN.{length, take, drop, get_or, length-append, length-drop}
use lib.Seq.{take-append_seam, drop-append_seam, take-append-add, drop-append-add, take-add, length-take-le}
use Rattle.formulas.specs.Formula.{Arises, table}
use Rattle.formulas.specs.Normal.{canonical, clauses}
use Rattle.formulas.proofs.Clauses.{clauses_table}
use Rattle.formulas.proofs.Formula.{table_lt}
use Rattle.formulas.proofs.Normal.{normal, at_most_70_clauses}
use Rattle.labels.specs.Tables.{principals, whole, in_words}
use Rattle.labels.proofs.Wide.{whole_words}
use Rattle.labels.specs.Order.{label, Formulated, Arising}
use Rattle.label_entries.specs.Entries.{secrecy_masks, integrity_masks, entry_length, read_entry, clauses_of, entry_bytes, fits, write_answer, write_buffer}
use Rattle.labels.specs.declared.Table.{Table}
use Rattle.labels.specs.declared.Label.{Label}
use Rattle.label_entries.proofs.Reading.{WellFormed, accepted, reads}

-- ---- reading what was written

-- the two lists of an entry, and what lies behind it
module _ (S I rest : List ℕ) where
  abbrev laid : List ℕ
  laid = (length S ∷ length I ∷ (S ++ I)) ++ rest

  secrecy_laid : secrecy_masks laid ≡ S
  secrecy_laid = ap (take (length S)) (append_assoc S I rest) ∙ take-append_seam S (I ++ rest)

  integrity_laid : integrity_masks laid ≡ I
  integrity_laid =
      ap (take (length I)) (drop-append-add (length S ∷ length I ∷ []) ((S ++ I) ++ rest) (length S)
      ∙ ap (drop (length S)) (append_assoc S I rest) ∙ drop-append_seam S (I ++ rest))
      ∙ take-append_seam I rest

  length_laid : length laid ≡ 2 + length S + length I + length rest
  length_laid = omega (arith, length-append (S ++ I) rest, length-append S I)

-- a table that is a formula's, as one number
whole_is : (t : Table) (f : Formulated t) → whole t ≡ table principals f.0
whole_is t f = ap whole f.1 ∙ whole_words (table principals f.0) (table_lt principals f.0)

whole_arises : (t : Table) → Formulated t → Arises principals (whole t)
whole_arises t f = (f.0, whole_is t f)

-- is the table of its clauses
of_clauses : (t : Table) → Formulated t → in_words (table principals (clauses_of t)) ≡ t
of_clauses t f =
    ap in_words ((normal principals (whole t) (whole_arises t f)).same ∙ whole_is t f) ∙ sym f.1

module _ (l : Label) (arises : Arising l) where
  abbrev S : List ℕ
  S = clauses_of l.secrecy

  abbrev I : List ℕ
  I = clauses_of l.integrity

  arises_S : Arises principals (whole l.secrecy)
  arises_S = whole_arises l.secrecy arises.0

  arises_I : Arises principals (whole l.integrity)
  arises_I = whole_arises l.integrity arises.1

  well : (rest : List ℕ) → WellFormed (laid S I rest)
  well rest =
      record {
        counts = omega (arith, length_laid S I rest);
        few_secrecy = at_most_70_clauses (whole l.secrecy) arises_S;
        few_integrity = at_most_70_clauses (whole l.integrity) arises_I;
        whole = omega (arith, length_laid S I rest);
        secrecy = subst (λ (cs : List ℕ). T (canonical principals cs)) (sym (secrecy_laid S I rest)) (normal principals (whole l.secrecy) arises_S).form;
        integrity = subst (λ (cs : List ℕ). T (canonical principals cs)) (sym (integrity_laid S I rest)) (normal principals (whole l.integrity) arises_I).form;
      }

  -- whatever lies behind the entry
  pub read_written : (rest : List ℕ) → read_entry (entry_bytes l ++ rest) ≡ Some (l, length (entry_bytes l))
  read_written rest =
      sym (accepted (laid S I rest) (well rest))
      ∙ ap₂ (λ (a : Label) (n : ℕ). Some (a, n))
      (λ k. record {
        secrecy = (ap (λ (cs : List ℕ). in_words (table principals cs)) (secrecy_laid S I rest) ∙ of_clauses l.secrecy arises.0) k;
        integrity = (ap (λ (cs : List ℕ). in_words (table principals cs)) (integrity_laid S I rest) ∙ of_clauses l.integrity arises.1) k;
      })
      (omega (arith, length-append S I))

  -- in the buffer that was written to
  pub read_back : (out : List ℕ) (n : ℕ) → write_answer l out ≡ Some n → read_entry (write_buffer l out) ≡ Some (l, n)
  unfolding write_answer write_buffer
  read_back out n e = go (fits l out) e
    where
      go : (b : Bool) → cond b (Some (length (entry_bytes l))) None ≡ Some n
          → read_entry (cond b (entry_bytes l ++ drop (length (entry_bytes l)) out) out) ≡ Some (l, n)
      go true q = read_written (drop (length (entry_bytes l)) out) ∙ ap (λ (k : ℕ). Some (l, k)) (cc)
      go false q = let z : ◌≡◌ {A = ℕ} 0 1 = cc in absurd (omega arith)

-- ---- writing what was read

-- the bytes of an entry are its counts, then its masks
entry_parts : (xs : List ℕ) → WellFormed xs → take (entry_length xs) xs ≡ get_or xs 0 0 ∷ get_or xs 1 0 ∷ (secrecy_masks xs ++ integrity_masks xs)
entry_parts [] w = absurd (omega (arith, w.counts))
entry_parts (x ∷ []) w = absurd (omega (arith, w.counts))
entry_parts (x ∷ y ∷ rest) w =
    ap (λ (k : ℕ). take k (x ∷ y ∷ rest)) (let q : 2 + x + y ≡ 2 + (x + y) = omega arith in q)
    ∙ take-append-add (x ∷ y ∷ []) rest (x + y)
    ∙ ap (λ (z : List ℕ). x ∷ y ∷ z) (take-add x y rest ∙ ap (λ (z : List ℕ). take x rest ++ take y z) (sym (drop-append-add (x ∷ y ∷ []) rest x)))

-- the clauses of a canonical list's table are the list
listed : (cs : List ℕ) → T (canonical principals cs) → clauses_of (in_words (table principals cs)) ≡ cs
listed cs c = ap (clauses principals) (whole_words (table principals cs) (table_lt principals cs)) ∙ clauses_table principals cs c

-- and they are what is written for their label
same_bytes : (xs : List ℕ) → WellFormed xs → entry_bytes (label (secrecy_masks xs) (integrity_masks xs)) ≡ take (entry_length xs) xs
same_bytes xs w =
    ap₂ (λ (A B : List ℕ). length A ∷ length B ∷ (A ++ B)) (listed (secrecy_masks xs) w.secrecy) (listed (integrity_masks xs) w.integrity)
    ∙ ap₂ (λ (a b : ℕ). a ∷ b ∷ (secrecy_masks xs ++ integrity_masks xs))
    (length-take-le (get_or xs 0 0) (drop 2 xs) (omega (arith, length-drop 2 xs, w.whole)))
    (length-take-le (get_or xs 1 0) (drop (2 + get_or xs 0 0) xs) (omega (arith, length-drop (2 + get_or xs 0 0) xs, w.whole)))
    ∙ sym (entry_parts xs w)

module _ (xs : List ℕ) (l : Label) (n : ℕ) (e : read_entry xs ≡ Some (l, n)) where
  -- what is read has formulas, and its entry lies within the bytes
  pub read_arises : Arising l
  read_arises =
      let r = reads xs l n e in
      subst Arising r.is_label ((secrecy_masks xs, refl), (integrity_masks xs, refl))

  pub read_within : (2 ≤ n) × (n ≤ length xs)
  read_within = let r = reads xs l n e in (omega (arith, r.is_length), omega (arith, r.is_length, r.well.whole))

  -- the entry of the label is the bytes that were read
  pub written_read : entry_bytes l ≡ take n xs
  written_read =
      let r = reads xs l n e in
      sym (ap entry_bytes r.is_label) ∙ same_bytes xs r.well ∙ ap (λ (k : ℕ). take k xs) r.is_length

  read_length : length (entry_bytes l) ≡ n
  read_length = ap length written_read ∙ length-take-le n xs read_within.1

  -- and written to any buffer with room they come back, with the rest of the buffer as it was
  pub write_back : (out : List ℕ) → n ≤ length out → (write_answer l out ≡ Some n) × (write_buffer l out ≡ take n xs ++ drop n out)
  unfolding write_answer write_buffer
  write_back out h = (
    ap (λ (b : Bool). cond b (Some (length (entry_bytes l))) None) takes ∙ ap Some read_length,
    ap (λ (b : Bool). cond b (entry_bytes l ++ drop (length (entry_bytes l)) out) out) takes
        ∙ ap₂ (λ (z : List ℕ) (k : ℕ). z ++ drop k out) written_read read_length,
  )
    where
      takes : fits l out ≡ true
      takes = le-leb (length (entry_bytes l)) (length out) (omega (arith, read_length))
