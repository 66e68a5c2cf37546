-- What writing an entry leaves in the buffer, by the counts and the parts that the writer fills. Assumes nothing.
use mathlib.Core.Path.{◌≡◌, sym, ap, ap₂, ◌∙◌}
use mathlib.Core.Bool.{Bool, true, false, cond}
use mathlib.Core.List.{List, [], ◌∷◌, ◌++◌, append_assoc}
use Prim.Native.Nat.{ℕ, ◌+◌, ◌-◌, ◌≤◌, ◌<◌}
use native.Mathlib.Omega.{arith}
use borrow.Author.Tests.{le-leb, lt-leb}
use borrow.Rule.Slice.PartMut.{put_mid}
use Rattle.std.specs.Prelude.{Some, None}
use lib.ListN.{length, drop, set, length-append}
use lib.Seq.{take_at, drop_at, drop-drop, drop-append-add}
use Rattle.label_entries.specs.Entries.{clauses_of, entry_bytes, fits, write_answer, write_buffer}
use Rattle.labels.specs.declared.Label.{Label}

-- two counts, and two lists into the parts behind them
laid : (out S I : List ℕ) → 2 + length S + length I ≤ length out
    → put_mid (2 + length S) (2 + length S + length I - (2 + length S)) (put_mid 2 (2 + length S - 2) (set (set out 0 (length S)) 1 (length I)) S) I
    ≡ (length S ∷ length I ∷ (S ++ I)) ++ drop (2 + length S + length I) out
laid [] S I h = absurd (omega arith)
laid (x ∷ []) S I h = absurd (omega arith)
laid (x ∷ y ∷ rest) S I h =
    ap₂ (λ (z : List ℕ) (k : ℕ). put_mid (2 + length S) k z I)
    (ap (λ (k : ℕ). front ++ drop k rest) (let e : 2 + length S - 2 ≡ length S = omega arith in e))
    (let e : 2 + length S + length I - (2 + length S) ≡ length I = omega arith in e)
    ∙ ap₂ (λ (a b : List ℕ). a ++ (I ++ drop (length I) b)) (take_at front behind (2 + length S) seam) (drop_at front behind (2 + length S) seam)
    ∙ ap (λ (z : List ℕ). front ++ (I ++ z)) (drop-drop (length I) (length S) rest ∙ sym tail)
    ∙ ap (λ (z : List ℕ). length S ∷ length I ∷ z) (sym (append_assoc S I (drop (2 + length S + length I) (x ∷ y ∷ rest))))
  where
    front : List ℕ
    front = length S ∷ length I ∷ S

    behind : List ℕ
    behind = drop (length S) rest

    seam : length front ≡ 2 + length S
    seam = omega arith

    tail : drop (2 + length S + length I) (x ∷ y ∷ rest) ≡ drop (length S + length I) rest
    tail =
        ap (λ (k : ℕ). drop k (x ∷ y ∷ rest)) (let e : 2 + length S + length I ≡ 2 + (length S + length I) = omega arith in e)
        ∙ drop-append-add (x ∷ y ∷ []) rest (length S + length I)

module _ (l : Label) (out : List ℕ) (m n : ℕ) (em : m ≡ length (clauses_of l.secrecy)) (en : n ≡ length (clauses_of l.integrity)) where
  counted : length (entry_bytes l) ≡ 2 + m + n
  counted = omega (arith, length-append (clauses_of l.secrecy) (clauses_of l.integrity))

  module _ (h : length out < 2 + m + n) where
    refuses : fits l out ≡ false
    refuses = lt-leb (length (entry_bytes l)) (length out) (omega (arith, counted))

    pub short_answer : None ≡ write_answer l out
    unfolding write_answer
    short_answer = sym (ap (λ (b : Bool). cond b (Some (length (entry_bytes l))) None) refuses)

    pub short_buffer : out ≡ write_buffer l out
    unfolding write_buffer
    short_buffer = sym (ap (λ (b : Bool). cond b (entry_bytes l ++ drop (length (entry_bytes l)) out) out) refuses)

  module _ (h : 2 + m + n ≤ length out) where
    takes : fits l out ≡ true
    takes = le-leb (length (entry_bytes l)) (length out) (omega (arith, counted))

    pub whole_answer : Some (2 + m + n) ≡ write_answer l out
    unfolding write_answer
    whole_answer = ap Some (sym counted) ∙ sym (ap (λ (b : Bool). cond b (Some (length (entry_bytes l))) None) takes)

    in_place : entry_bytes l ++ drop (2 + length (clauses_of l.secrecy) + length (clauses_of l.integrity)) out ≡ write_buffer l out
    unfolding write_buffer
    in_place =
        ap (λ (k : ℕ). entry_bytes l ++ drop k out)
        (let e : 2 + length (clauses_of l.secrecy) + length (clauses_of l.integrity) ≡ length (entry_bytes l) = omega (arith, counted) in e)
        ∙ sym (ap (λ (b : Bool). cond b (entry_bytes l ++ drop (length (entry_bytes l)) out) out) takes)

    pub whole_buffer : (S I : List ℕ) → S ≡ clauses_of l.secrecy → I ≡ clauses_of l.integrity
        → put_mid (2 + m) (2 + m + n - (2 + m)) (put_mid 2 (2 + m - 2) (set (set out 0 m) 1 n) S) I ≡ write_buffer l out
    whole_buffer S I es ei = rw (em, en, es, ei) (laid out (clauses_of l.secrecy) (clauses_of l.integrity) (omega arith) ∙ in_place)
