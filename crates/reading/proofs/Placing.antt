-- The input records on their way into the store.
use mathlib.Core.Path.{◌≡◌, refl, sym, ap, ap₂, ◌∙◌}
use mathlib.Core.List.{List, [], ◌∷◌, ◌++◌}
use Prim.Native.Nat.{ℕ, zero, suc, ◌+◌, ◌-◌, ◌*◌, ◌/◌, ◌≤◌, ◌<◌}
use native.Mathlib.Nat.{zero-add}
use native.Mathlib.Numerals.{add-one}
use native.Mathlib.Omega.{arith}
use lib.ListN.{length, drop, set, replicate, length-append, length-drop, get_or-append}
use lib.Seq.{append_snoc, set-append_seam, get_or-drop, drop_at, drop-drop}
use Rattle.std.specs.Prelude.{Some, None}
use Rattle.labels.specs.declared.Label.{Label}
use Rattle.model.specs.State.{Slot, Store}
use Rattle.model.specs.declared.Record.{Record}
use Rattle.model.specs.Decoding.{byte, u16, u32}
use Rattle.model.specs.Inputs.{inputs, input_slots}
use Rattle.model.specs.Running.{start_store}
use Rattle.model.proofs.Start.{length_inputs, length_slots}
use Rattle.reading.specs.Placing.{input_record, no_records}

-- n input records from byte i on, with the places that are left
unfoldable pub placed : (ℕ → Label) → List ℕ → ℕ → Store
placed ls bs n = input_slots (inputs ls bs n 0) ++ replicate (256 - n) None

length_placed : (ls : ℕ → Label) (bs : List ℕ) (n i : ℕ) → length (input_slots (inputs ls bs n i)) ≡ n
length_placed ls bs n i = length_slots (inputs ls bs n i) ∙ length_inputs ls bs n i

pub placed_none : (ls : ℕ → Label) (bs : List ℕ) → no_records ≡ placed ls bs 0
unfolding placed inputs input_slots
placed_none ls bs = refl

-- one record more, at the end
more : (ls : ℕ → Label) (bs : List ℕ) (n i : ℕ) → input_slots (inputs ls bs (suc n) i) ≡ input_slots (inputs ls bs n i) ++ (Some (input_record ls bs (i + 6 * n)) ∷ [])
unfolding inputs input_slots
more ls bs zero i = ap (λ (k : ℕ). Some (input_record ls bs k) ∷ []) (let e : i ≡ i + 6 * 0 = omega arith in e)
more ls bs (suc n) i =
    ap (λ (l : Store). Some (input_record ls bs i) ∷ l)
    (more ls bs n (i + 6) ∙ ap (λ (k : ℕ). input_slots (inputs ls bs n (i + 6)) ++ (Some (input_record ls bs k) ∷ [])) (let e : i + 6 + 6 * n ≡ i + 6 * suc n = omega arith in e))

-- the first of the places that are left is filled
filled : (l : Store) (m : ℕ) (x : Slot) → set (l ++ replicate (suc m) None) (length l) x ≡ (l ++ (x ∷ [])) ++ replicate m None
filled l m x = set-append_seam l None (replicate m None) x ∙ sym (append_snoc l x (replicate m None))

placed_more : (ls : ℕ → Label) (bs : List ℕ) (n : ℕ) → n < 256 → set (placed ls bs n) n (Some (input_record ls bs (6 * n))) ≡ placed ls bs (n + 1)
unfolding placed
placed_more ls bs n h =
    ap₂ (λ (m k : ℕ). set (input_slots (inputs ls bs n 0) ++ replicate m None) k (Some (input_record ls bs (6 * n))))
    (let e : 256 - n ≡ suc (256 - (n + 1)) = omega arith in e) (sym (length_placed ls bs n 0))
    ∙ filled (input_slots (inputs ls bs n 0)) (256 - (n + 1)) (Some (input_record ls bs (6 * n)))
    ∙ ap (λ (l : Store). l ++ replicate (256 - (n + 1)) None)
    (ap (λ (k : ℕ). input_slots (inputs ls bs n 0) ++ (Some (input_record ls bs k) ∷ [])) (sym (zero-add (6 * n))) ∙ sym (more ls bs n 0) ∙ ap (λ (k : ℕ). input_slots (inputs ls bs k 0)) (sym (add-one n)))

placed_all : (ls : ℕ → Label) (bs : List ℕ) (n : ℕ) → placed ls bs n ≡ start_store (input_slots (inputs ls bs n 0))
unfolding placed start_store
placed_all ls bs n = ap (λ (k : ℕ). input_slots (inputs ls bs n 0) ++ replicate (256 - k) None) (sym (length_placed ls bs n 0))

-- the six bytes at a, taken by themselves, are the record there
module _ (ls : ℕ → Label) (bs six rest : List ℕ) (a : ℕ) (long : length six ≡ 6) (cut : drop a bs ≡ six ++ rest) where
  byte_in : (k i : ℕ) → k < 6 → a + k ≡ i → byte six k ≡ byte bs i
  byte_in k i h e =
      sym (get_or-append six rest 0 k (omega (arith, long))) ∙ ap (λ (l : List ℕ). byte l k) (sym cut) ∙ get_or-drop a bs k 0 ∙ ap (byte bs) e

  pub record_in : input_record ls six 0 ≡ input_record ls bs a
  unfolding u16 u32
  record_in =
      rw (
        byte_in 0 a (omega arith) (omega arith),
        byte_in 1 (a + 1) (omega arith) (omega arith),
        byte_in 2 (a + 2) (omega arith) (omega arith),
        byte_in 3 (a + 2 + 1) (omega arith) (omega arith),
        byte_in 4 (a + 2 + 2) (omega arith) (omega arith),
        byte_in 5 (a + 2 + 2 + 1) (omega arith) (omega arith),
      )

  -- and the bytes behind them are left
  rest_is : rest ≡ drop (a + 6) bs
  rest_is = sym (drop_at six rest 6 long) ∙ ap (drop 6) (sym cut) ∙ drop-drop 6 a bs

-- i records are placed, and the bytes of the others are left
pub record Placing (ls : ℕ → Label) (bs : List ℕ) (store : Store) (rest : List ℕ) (i : ℕ) : Type 0 where
  pub some : 6 * i ≤ length bs
  pub left : rest ≡ drop (6 * i) bs
  pub done : store ≡ placed ls bs i

module _ (ls : ℕ → Label) (bs : List ℕ) (most : length bs ≤ 1536) where
  pub place_start : Placing ls bs no_records bs 0
  place_start = record { some = omega arith; left = refl; done = placed_none ls bs }

  -- the next six bytes are the next record
  pub place_one : (store : Store) (rest six next : List ℕ) (i : ℕ) → Placing ls bs store rest i → rest ≡ six ++ next → length six ≡ 6
      → Placing ls bs (set store i (Some (input_record ls six 0))) next (i + 1)
  place_one store rest six next i w cut long =
      let here = sym w.left ∙ cut in
      let within : 6 * i + 6 ≤ length bs = let a = ap length here in let b = length-append six next in let d = length-drop (6 * i) bs in omega (arith, long) in
      record {
        some = omega (arith, within);
        left = rest_is ls bs six next (6 * i) long here ∙ ap (λ (k : ℕ). drop k bs) (omega arith);
        done = ap₂ (λ (σ : Store) (r : Record). set σ i (Some r)) w.done (record_in ls bs six next (6 * i) long here) ∙ placed_more ls bs i (omega (arith, within, most));
      }

  -- fewer than six bytes are no record
  pub place_end : (store : Store) (rest : List ℕ) (i : ℕ) → Placing ls bs store rest i → length rest < 6
      → store ≡ start_store (input_slots (inputs ls bs (length bs / 6) 0))
  place_end store rest i w short =
      let n : i ≡ length bs / 6 = let a = ap length w.left in let d = length-drop (6 * i) bs in omega (arith, w.some, short) in
      w.done ∙ ap (placed ls bs) n ∙ placed_all ls bs (length bs / 6)
