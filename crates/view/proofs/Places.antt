-- The loops over the places of the store: what is left of the records from place p on. Assumes nothing.
use Rattle.std.specs.Prelude.{None, Some}
use mathlib.Core.Path.{◌≡◌, refl, sym, ap, subst, ◌∙◌}
use mathlib.Core.Bool.{Bool}
use mathlib.Core.List.{List, [], ◌∷◌, ◌++◌}
use Prim.Native.Nat.{ℕ, ◌+◌, ◌*◌, ◌≤◌, ◌<◌}
use native.Mathlib.Numerals.{add-one}
use native.Mathlib.Omega.{arith}
use lib.ListN.{length, drop, drop_of_length-le}
use Rattle.std.proofs.lemmas.List.{drop_more}
use Rattle.labels.specs.Tables.{principals}
use Rattle.labels.specs.declared.Label.{Label}
use Rattle.model.specs.State.{Slot, Store, at, shown}
use Rattle.model.specs.declared.Record.{Record}
use Rattle.view_fields.specs.Fields.{record_width, record_field}
use Rattle.view.specs.Layout.{slot_field, record_fields, one, records_shown}
use Rattle.view_fields.specs.Writing.{over}
use Rattle.view_fields.proofs.Buffers.{Writing, start, piece, ends, part, back}
use Rattle.view_fields.proofs.Widths.{length_record}

module _ (Reads : Label → Bool) (σ : Store) where
  here : (p : ℕ) → p < length σ → drop p σ ≡ at σ p ∷ drop (p + 1) σ
  here p h = drop_more σ p None h

  nothing : (p : ℕ) → length σ ≤ p → drop p σ ≡ []
  nothing p h = drop_of_length-le σ {i = p} h

  pub count_here : (p : ℕ) → p < length σ
      → records_shown Reads (drop p σ) ≡ one (shown Reads (at σ p)) + records_shown Reads (drop (p + 1) σ)
  unfolding records_shown
  count_here p h = ap (records_shown Reads) (here p h)

  pub count_nothing : (p : ℕ) → length σ ≤ p → records_shown Reads (drop p σ) ≡ 0
  unfolding records_shown
  count_nothing p h = ap (records_shown Reads) (nothing p h)

  fields_here : (p : ℕ) → p < length σ
      → record_fields principals Reads p (drop p σ)
      ≡ slot_field principals p (shown Reads (at σ p)) ++ record_fields principals Reads (p + 1) (drop (p + 1) σ)
  unfolding record_fields
  fields_here p h =
      ap (record_fields principals Reads p) (here p h)
      ∙ ap (λ (k : ℕ). slot_field principals p (shown Reads (at σ p)) ++ record_fields principals Reads k (drop (p + 1) σ))
      (sym (add-one p))

  -- the records before place p are written, n of them, and there is room for all
  pub record Written (b₀ b : List ℕ) (n p : ℕ) : Type 0 where
    pub place : p ≤ length σ
    pub few : n ≤ p
    pub room : record_width principals * records_shown Reads σ ≤ length b₀
    pub count : n + records_shown Reads (drop p σ) ≡ records_shown Reads σ
    pub writing : Writing (record_fields principals Reads 0 σ) (record_fields principals Reads p (drop p σ)) b₀ b
        (record_width principals * n)

  pub none_yet : (b : List ℕ) → record_width principals * records_shown Reads σ ≤ length b → Written b b 0 0
  none_yet b h = record { place = omega arith; few = omega arith; room = h; count = omega arith; writing = start refl }

  module _ {b₀ b : List ℕ} {n p : ℕ} (w : Written b₀ b n p) where
    pub all_counted : length σ ≤ p → n ≡ records_shown Reads σ
    all_counted h = let none = count_nothing p h in omega (arith, w.count)

    pub all_written : length σ ≤ p → b ≡ over (record_fields principals Reads 0 σ) b₀
    unfolding record_fields
    all_written h = ends w.writing (ap (record_fields principals Reads p) (nothing p h))

  module _ {b₀ b : List ℕ} {n p : ℕ} (w : Written b₀ b n p) (h : p < length σ) where
    -- what the slot at p adds to the count, if x is shown of it
    count_next : (x : Slot) → shown Reads (at σ p) ≡ x → n + one x + records_shown Reads (drop (p + 1) σ) ≡ records_shown Reads σ
    count_next x e =
        let f = count_here p h ∙ ap (λ (y : Slot). one y + records_shown Reads (drop (p + 1) σ)) e in
        omega (arith, w.count)

    fields_next : (x : Slot) → shown Reads (at σ p) ≡ x
        → record_fields principals Reads p (drop p σ)
        ≡ slot_field principals p x ++ record_fields principals Reads (p + 1) (drop (p + 1) σ)
    fields_next x e =
        fields_here p h
        ∙ ap (λ (y : Slot). slot_field principals p y ++ record_fields principals Reads (p + 1) (drop (p + 1) σ)) e

    module _ (r : Record) (e : shown Reads (at σ p) ≡ Some r) where
      pub room_here : record_width principals * n + record_width principals ≤ length b₀
      room_here = let f = count_next (Some r) e in omega (arith, w.room)

      -- the record at p is shown, and written behind the n before it
      pub written_here : {ys : List ℕ} → ys ≡ over (record_field principals p r) (part (record_width principals * n) b)
          → Written b₀ (back (record_width principals * n) b ys) (n + 1) (p + 1)
      unfolding slot_field
      written_here {ys} q =
          record {
            place = omega arith;
            few = omega (arith, w.few);
            room = w.room;
            count = count_next (Some r) e;
            writing =
                subst (Writing (record_fields principals Reads 0 σ) (record_fields principals Reads (p + 1) (drop (p + 1) σ)) b₀
                (back (record_width principals * n) b ys))
                (let f : 132 * n + 132 ≡ 132 * (n + 1) = omega arith in f)
                (piece w.writing (record_field principals p r) (fields_next (Some r) e) (length_record principals p r)
                room_here q);
          }

    -- nothing is shown of place p
    pub hidden_here : shown Reads (at σ p) ≡ None → Written b₀ b n (p + 1)
    unfolding slot_field
    hidden_here e =
        record {
          place = omega arith;
          few = omega (arith, w.few);
          room = w.room;
          count = let f = count_next None e in omega arith;
          writing = rw (fields_next None e) at w.writing;
        }
