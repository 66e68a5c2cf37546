-- "A view is as many bytes as its length field says": 206 and 132 for each record shown.
use mathlib.Core.Bool.{Bool}
use mathlib.Core.List.{List, [], ◌∷◌, ◌++◌, append_assoc}
use mathlib.Core.Path.{◌≡◌, refl, sym, ap, ap₂, ◌∙◌}
use Prim.Native.Nat.{ℕ, ◌+◌, ◌*◌, ◌/◌, ◌%◌, ◌≤◌, ◌<◌}
use native.Mathlib.Omega.{arith}
use lib.ListN.{length}
use lib.Seq.{get_or-append-add}
use Rattle.labels.specs.Tables.{principals}
use Rattle.labels.specs.declared.Label.{Label}
use Rattle.model.specs.State.{Store, Outcome, shown}
use Rattle.model.specs.declared.Account.{Account}
use Rattle.model.specs.Decoding.{byte, u16}
use Rattle.model.specs.declared.Ending.{Ending}
use Rattle.view_fields.specs.Fields.{record_width, little_endian}
use Rattle.view.specs.Layout.{record_fields, records_shown, records_at, counts, final, view_length, view, length_over, view_over}
use Rattle.view.proofs.Widths.{one_small, length_counts, length_view}

-- behind the first three numbers
behind : (Reads : Label → Bool) (s : ℕ) (e : Ending) (a : Account) (bs : List ℕ) (i : ℕ)
    → byte (counts Reads s e a ++ bs) (6 + i) ≡ byte bs i
behind Reads s e a bs i =
    ap (λ (n : ℕ). byte (counts Reads s e a ++ bs) (n + i)) (sym (length_counts Reads e a s))
    ∙ get_or-append-add (counts Reads s e a) bs i 0

small : (n : ℕ) → n < 65536 → n % 256 + 256 * (n / 256 % 256) ≡ n
small n lt = omega arith

-- what stands there: records shown, 206, length, and the rest
abbrev tail : (Label → Bool) → Outcome → List ℕ
tail Reads o =
    little_endian 2 (records_shown Reads o.store)
    ++ (little_endian 2 records_at
    ++ (little_endian 2 (view_length Reads o.store)
    ++ (final principals Reads o.ending o.account ++ record_fields principals Reads 0 o.store)))

view_tail : (Reads : Label → Bool) (s : ℕ) (o : Outcome) → view Reads s o ≡ counts Reads s o.ending o.account ++ tail Reads o
unfolding view_over
view_tail Reads s o = simp append_assoc refl

-- The sixth number of a view is its length.
pub length_field : (Reads : Label → Bool) (s : ℕ) (o : Outcome) → view_length Reads o.store < 65536
    → u16 (view Reads s o) 10 ≡ length (view Reads s o)
unfolding u16 little_endian
length_field Reads s o lt =
    ap (λ (v : List ℕ). u16 v 10) (view_tail Reads s o)
    ∙ ap₂ (λ (x y : ℕ). x + 256 * y) (behind Reads s o.ending o.account (tail Reads o) 4)
    (behind Reads s o.ending o.account (tail Reads o) 5)
    ∙ small (view_length Reads o.store) lt ∙ sym (length_view Reads s o)

-- The fourth is how many records it shows.
pub count_field : (Reads : Label → Bool) (s : ℕ) (o : Outcome) → records_shown Reads o.store < 65536
    → u16 (view Reads s o) 6 ≡ records_shown Reads o.store
unfolding u16 little_endian
count_field Reads s o lt =
    ap (λ (v : List ℕ). u16 v 6) (view_tail Reads s o)
    ∙ ap₂ (λ (x y : ℕ). x + 256 * y) (behind Reads s o.ending o.account (tail Reads o) 0)
    (behind Reads s o.ending o.account (tail Reads o) 1)
    ∙ small (records_shown Reads o.store) lt

-- no more records are shown than there are places
pub shown_most : (Reads : Label → Bool) (σ : Store) → records_shown Reads σ ≤ length σ
unfolding records_shown
shown_most Reads [] = omega arith
shown_most Reads (x ∷ σ) = omega (arith, one_small (shown Reads x), shown_most Reads σ)

pub length_field_places : (Reads : Label → Bool) (s : ℕ) (o : Outcome) → length o.store ≤ 256
    → u16 (view Reads s o) 10 ≡ length (view Reads s o)
unfolding length_over
length_field_places Reads s o le = length_field Reads s o (omega (arith, shown_most Reads o.store))

-- the longest view of a store of 256 places
pub view_most : (Reads : Label → Bool) (σ : Store) → length σ ≤ 256
    → view_length Reads σ ≤ records_at + record_width principals * 256
unfolding length_over
view_most Reads σ h = omega (arith, shown_most Reads σ)
