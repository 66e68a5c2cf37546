-- The loop over the masks of a formula: those before the place i are canonical, and their table is known. Assumes nothing.
use mathlib.Core.Path.{◌≡◌, refl, sym, ap, ◌∙◌, subst}
use mathlib.Core.Bool.{true, false}
use mathlib.Core.List.Memᴰ.{cases_cons as cases}
use mathlib.Core.List.Memᴰ.{head as here}
use mathlib.Core.List.Memᴰ.{not-nil as none}
use mathlib.Core.List.Memᴰ.{tail as there}
use mathlib.Core.List.{List, [], ◌∷◌, ◌++◌, Memᴰ as Mem}
use mathlib.Core.Logic.{◌⊎◌, inl, inr, ⊎_elim}
use Prim.Native.Nat.{ℕ, ◌+◌, ◌-◌, ◌≤◌, ◌<◌}
use native.Mathlib.Numerals.{add-one}
use native.Mathlib.Omega.{arith}
use lib.Dec.{T}
use lib.ListN.{length, take, drop, get_or, take-append-drop}
use lib.Seq.{take-suc, take_all}
use Rattle.formulas.specs.Bits.{bit}
use Rattle.formulas.specs.Formula.{holds, satisfied, table}
use Rattle.formulas.specs.Normal.{canonical}
use Rattle.formulas.proofs.Canonical.{Follows, canon_lt, canon_front, canon_last, canon_more, none_within, outside_satisfies}
use Rattle.formulas.proofs.Formula.{bit_table, table_lt}
use Rattle.formulas.proofs.Tests.{T_eq, T_same}
use Rattle.labels.specs.Tables.{principals, whole, in_words, table_and}
use Rattle.labels.specs.declared.Table.{Table}
use Rattle.labels.proofs.Wide.{whole_words}
use Rattle.labels.proofs.Published.{words_conjunction}

-- the table of a formula
abbrev pub formula : List ℕ → Table
formula cs = in_words (table principals cs)

-- the last member of a list is behind it
mem_last : (cs : List ℕ) (c : ℕ) → Mem c (cs ++ c ∷ [])
mem_last [] c = here refl
mem_last (d ∷ ds) c = there (mem_last ds c)

mem_more : (cs : List ℕ) (c d : ℕ) → Mem d (cs ++ c ∷ []) → Mem d cs ⊎ (d ≡ c)
mem_more [] c d m = ⊎_elim (λ q. inr q) (λ m'. absurd (none m')) (cases m)
mem_more (e ∷ es) c d m = ⊎_elim (λ q. inl (here q)) (λ m'. ⊎_elim (λ k. inl (there k)) (λ q. inr q) (mem_more es c d m')) (cases m)

-- i masks are passed, their table is t, and the next is at least `least`, which is 0 or one more than the last of them
pub record Passed (ms : List ℕ) (t : Table) (least i : ℕ) : Type 0 where
  pub within : i ≤ length ms
  pub canon : T (canonical principals (take i ms))
  pub is_table : t ≡ formula (take i ms)
  pub below : (d : ℕ) → Mem d (take i ms) → d < least
  pub last : (least ≡ 0) ⊎ Mem (least - 1) (take i ms)

pub passed_none : (ms : List ℕ)
    → Passed ms (record { word0 = 18446744073709551615; word1 = 18446744073709551615; word2 = 18446744073709551615; word3 = 18446744073709551615 }) 0 0
unfolding table holds
passed_none ms = record { within = omega arith; canon = tt; is_table = refl; below = λ d m. absurd (none m); last = inl refl }

module _ (ms : List ℕ) (t : Table) (least i : ℕ) (w : Passed ms t least i) (h : i < length ms) where
  abbrev c : ℕ
  c = get_or ms i 0

  one_more : take (i + 1) ms ≡ take i ms ++ c ∷ []
  one_more = ap (λ (k : ℕ). take k ms) (add-one i) ∙ take-suc ms i 0 h

  -- a canonical list is canonical up to this mask
  up_to : T (canonical principals ms) → T (canonical principals (take i ms ++ c ∷ []))
  up_to u =
      subst (λ (cs : List ℕ). T (canonical principals cs)) one_more
      (canon_front principals (take (i + 1) ms) (drop (i + 1) ms) (subst (λ (cs : List ℕ). T (canonical principals cs)) (sym (take-append-drop (i + 1) ms)) u))

  pub not_above : c < least → canonical principals ms ≡ false
  not_above q =
      T_same (canonical principals ms) false
      (λ u. ⊎_elim (λ e. absurd (omega arith))
      (λ m. let f = canon_last principals (take i ms) c (up_to u) (least - 1) m in absurd (omega (arith, f.0))) w.last)
      (λ u. absurd u)

  module _ (small : c < 256) where
    -- what the table tells of the principals outside this mask
    tells : bit (whole t) (255 - c) ≡ satisfied (take i ms) (255 - c)
    tells =
        ap (λ (x : ℕ). bit x (255 - c)) (ap whole w.is_table ∙ whole_words (table principals (take i ms)) (table_lt principals (take i ms)))
        ∙ bit_table principals (take i ms) (255 - c) (omega arith)

    pub has_subset : bit (whole t) (255 - c) ≡ false → canonical principals ms ≡ false
    has_subset e =
        T_same (canonical principals ms) false
        (λ u. T_eq (sym tells ∙ e)
        (outside_satisfies principals (take i ms) c (canon_lt principals (take i ms) w.canon) small (λ d m. (canon_last principals (take i ms) c (up_to u) d m).1)))
        (λ u. absurd u)

    pub passed_more : least ≤ c → bit (whole t) (255 - c) ≡ true → (s : Table) → s ≡ formula (c ∷ []) → (r : Table) → r ≡ table_and t s → Passed ms r (c + 1) (i + 1)
    passed_more q e s es r er =
        record {
          within = omega arith;
          canon = subst (λ (cs : List ℕ). T (canonical principals cs)) (sym one_more) (canon_more principals (take i ms) c w.canon small follows);
          is_table =
              er ∙ (λ k. table_and (w.is_table k) (es k)) ∙ words_conjunction (take i ms) (c ∷ []) ∙ ap formula (sym one_more);
          below = λ d m. ⊎_elim (λ k. let b = w.below d k in omega arith) (λ k. omega arith) (mem_more (take i ms) c d (subst (Mem d) one_more m));
          last = inr (subst (Mem (c + 1 - 1)) (sym one_more) (subst (λ (k : ℕ). Mem k (take i ms ++ c ∷ [])) (let z : c ≡ c + 1 - 1 = omega arith in z) (mem_last (take i ms) c)));
        }
      where
        follows : (d : ℕ) → Mem d (take i ms) → Follows d c
        follows d m = (let b = w.below d m in omega arith, none_within principals (take i ms) c small (T_eq (sym e ∙ tells) tt) d m)

-- all of them are passed
module _ (ms : List ℕ) (t : Table) (least i : ℕ) (w : Passed ms t least i) (h : length ms ≤ i) where
  pub all_canonical : canonical principals ms ≡ true
  all_canonical =
      T_same (canonical principals ms) true (λ _. tt) (λ _. subst (λ (cs : List ℕ). T (canonical principals cs)) (take_all i ms h) w.canon)

  pub all_table : t ≡ formula ms
  all_table = w.is_table ∙ ap formula (take_all i ms h)
