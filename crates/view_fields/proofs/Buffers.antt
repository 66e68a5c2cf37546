-- A buffer that is written piece by piece from its start on. Assumes nothing.
use mathlib.Core.Path.{◌≡◌, refl, sym, ap, ap₂, ◌∙◌}
use mathlib.Core.List.{List, [], ◌∷◌, ◌++◌, append_assoc, append-nil}
use Prim.Native.Nat.{ℕ, ◌+◌, ◌-◌, ◌≤◌, ◌<◌}
use native.Mathlib.Numerals.{add-one}
use native.Mathlib.Nat.{zero-add}
use native.Mathlib.Omega.{arith}
use lib.ListN.{length, get_or, take, drop, set, length-append, length-take, length-drop, take-append-drop, drop_of_length-le}
use lib.Seq.{drop-cons, length-take-le, take_all, take_at, drop_at, drop-drop, set_split}
use Rattle.view_fields.specs.Writing.{over}

-- what is as long as the buffer takes all of it
pub over_all : (v b : List ℕ) → length b ≤ length v → over v b ≡ v
unfolding over
over_all v b h = ap (λ (z : List ℕ). v ++ z) (drop_of_length-le b {i = length v} h) ∙ append-nil v

-- the element at i, and those behind it
pub from_here : {A : Type 0} (xs : List A) (d : A) (i : ℕ) → i < length xs → drop i xs ≡ get_or xs i d ∷ drop (i + 1) xs
from_here xs d i h = drop-cons xs i d h ∙ ap (λ (k : ℕ). get_or xs i d ∷ drop k xs) (sym (add-one i))

-- n bytes that were written over the start of a buffer lie within it, and are read back from there
module _ (v b : List ℕ) {n : ℕ} (e : n ≡ length v) where
  pub written_within : {out : List ℕ} → out ≡ over v b → n ≤ length out
  unfolding over
  written_within f = let g = ap length f ∙ length-append v (drop (length v) b) in omega (arith, e, g)

  pub taken_back : {out : List ℕ} → out ≡ over v b → take n out ≡ v
  unfolding over
  taken_back f = ap (take n) f ∙ take_at v (drop (length v) b) n (sym e)

-- The buffer was b₀ and is b, written up to i. Once `left` is written too, from i on, it is b₀ with `whole` over its start.
pub record Writing (whole left b₀ b : List ℕ) (i : ℕ) : Type 0 where
  pub room : i ≤ length b
  pub same : length b ≡ length b₀
  pub count : i + length left ≡ length whole
  pub rest : over whole b₀ ≡ take i b ++ over left (drop i b)

-- the part of b from i on, and b once that part has come back as ys
abbrev pub part : ℕ → List ℕ → List ℕ
part i b = take (length b - i) (drop i b)

abbrev pub back : ℕ → List ℕ → List ℕ → List ℕ
back i b ys = take i b ++ (ys ++ drop (length b - i) (drop i b))

pub part_drop : (i : ℕ) (b : List ℕ) → part i b ≡ drop i b
part_drop i b = take_all (length b - i) (drop i b) (rw length-drop (omega arith))

-- the part from i on comes back with xs over its start
pub back_over : (i : ℕ) (b xs ys : List ℕ) → ys ≡ over xs (part i b) → back i b ys ≡ take i b ++ over xs (drop i b)
back_over i b xs ys r =
    ap₂ (λ (y z : List ℕ). take i b ++ (y ++ z)) (r ∙ ap (over xs) (part_drop i b)) none
    ∙ ap (λ (y : List ℕ). take i b ++ y) (append-nil _)
  where
    none : drop (length b - i) (drop i b) ≡ []
    none = drop_of_length-le (drop i b) {i = length b - i} (let z = length-drop i b in omega arith)

pub length_back : (i : ℕ) (b ys : List ℕ) → i ≤ length b → length ys ≡ length (part i b) → length (back i b ys) ≡ length b
length_back i b ys h e =
    let rest = drop (length b - i) (drop i b) in
    length-append (take i b) (ys ++ rest) ∙ ap₂ (λ (x y : ℕ). x + y) (length-take-le i b h) (length-append ys rest)
    ∙ simp (e, part_drop i b, length-drop) (omega arith)

pub start : {whole left b : List ℕ} → left ≡ whole → Writing whole left b b 0
start {b = b} e =
    record {
      room = omega arith;
      same = refl;
      count = let f = ap length e in omega arith;
      rest = ap (λ (v : List ℕ). over v b) (sym e);
    }

pub ends_at : {whole left b₀ b : List ℕ} {i : ℕ} → Writing whole left b₀ b i → left ≡ [] → i ≡ length whole
ends_at {left = left} w e = let f : length left ≡ 0 = ap length e in omega (arith, w.count)

pub ends : {whole left b₀ b : List ℕ} {i : ℕ} → Writing whole left b₀ b i → left ≡ [] → b ≡ over whole b₀
unfolding over
ends {whole} {left} {b₀} {b} {i} w e = sym (w.rest ∙ ap (λ (v : List ℕ). take i b ++ over v (drop i b)) e ∙ take-append-drop i b)

module _ {whole left b₀ b : List ℕ} {i : ℕ} (w : Writing whole left b₀ b i) where
  -- xs, n bytes, is written over the part from i on
  pub more : (xs l : List ℕ) → left ≡ xs ++ l → (n : ℕ) → length xs ≡ n → i + n ≤ length b₀
      → (b' : List ℕ) → b' ≡ take i b ++ over xs (drop i b) → Writing whole l b₀ b' (i + n)
  unfolding over
  more xs l d n e h b' q =
      record {
        room = omega (arith, long);
        same = long ∙ w.same;
        count = let f = ap length d ∙ length-append xs l in omega (arith, w.count);
        rest = w.rest ∙ whole_rest;
      }
    where
      front : length (take i b ++ xs) ≡ i + n
      front = length-append (take i b) xs ∙ ap₂ (λ (x y : ℕ). x + y) (length-take-le i b w.room) e

      split : b' ≡ (take i b ++ xs) ++ drop (length xs) (drop i b)
      split = q ∙ sym (append_assoc (take i b) xs (drop (length xs) (drop i b)))

      long : length b' ≡ length b
      long =
          ap length split ∙ length-append (take i b ++ xs) (drop (length xs) (drop i b))
          ∙ simp (front, length-drop) (omega (arith, w.same))

      behind : drop (length left) (drop i b) ≡ drop (length l) (drop (length xs) (drop i b))
      behind =
          ap (λ (n : ℕ). drop n (drop i b)) (ap length d ∙ length-append xs l) ∙ sym (drop-drop (length l) (length xs) (drop i b))

      far : List ℕ
      far = drop (length xs) (drop i b)

      joined : take (i + n) b' ++ over l (drop (i + n) b') ≡ (take i b ++ xs) ++ (l ++ drop (length l) far)
      joined =
          ap₂ (λ (a z : List ℕ). a ++ (l ++ drop (length l) z))
          (ap (take (i + n)) split ∙ take_at (take i b ++ xs) far (i + n) front)
          (ap (drop (i + n)) split ∙ drop_at (take i b ++ xs) far (i + n) front)

      whole_rest : take i b ++ over left (drop i b) ≡ take (i + n) b' ++ over l (drop (i + n) b')
      whole_rest =
          ap₂ (λ (a z : List ℕ). take i b ++ (a ++ z)) d behind
          ∙ ap (λ (a : List ℕ). take i b ++ a) (append_assoc xs l (drop (length l) far))
          ∙ sym (joined ∙ append_assoc (take i b) xs (l ++ drop (length l) far))

  -- one byte is stored
  pub byte : {x : ℕ} {l : List ℕ} → left ≡ x ∷ l → i < length b₀ → Writing whole l b₀ (set b i x) (i + 1)
  unfolding over
  byte {x} {l} d h =
      more (x ∷ []) l d 1 refl (omega arith) (set b i x)
      (set_split b i x (omega (arith, w.same)) ∙ ap (λ (z : List ℕ). take i b ++ (x ∷ z))
      (ap (λ (k : ℕ). drop k b) (sym (add-one i)) ∙ sym (drop-drop 1 i b)))

  pub room_for : (n : ℕ) → i + n ≤ length b₀ → n ≤ length (part i b)
  room_for n h = simp (length-take, length-drop) (omega (arith, w.same))

  -- there is room for the next n bytes
  pub room_next : length whole ≤ length b₀ → (xs l : List ℕ) → left ≡ xs ++ l → {n : ℕ} → length xs ≡ n → i + n ≤ length b₀
  room_next h xs l d e = let f = ap length d ∙ length-append xs l in omega (arith, w.count)

  -- the part from i on is lent, and comes back as ys, with xs over its start
  pub piece : (xs : List ℕ) {l : List ℕ} → left ≡ xs ++ l → {n : ℕ} → length xs ≡ n → i + n ≤ length b₀
      → {ys : List ℕ} → ys ≡ over xs (part i b) → Writing whole l b₀ (back i b ys) (i + n)
  piece xs {l} d {n} e h {ys} r = more xs l d n e h (back i b ys) (back_over i b xs ys r)

  -- the same where there is room for the whole
  pub next : length whole ≤ length b₀ → (xs : List ℕ) {l : List ℕ} → left ≡ xs ++ l → {n : ℕ} → n ≡ length xs → {ys : List ℕ}
      → ys ≡ over xs (part i b)
      → Writing whole l b₀ (back i b ys) (i + n)
  next h xs {l} d e r = piece xs d (sym e) (room_next h xs l d (sym e)) r

  pub room_for_next : length whole ≤ length b₀ → (xs l : List ℕ) → left ≡ xs ++ l → length xs ≤ length (part i b)
  room_for_next h xs l d = room_for (length xs) (room_next h xs l d refl)

  -- the same of the last piece
  last : {n : ℕ} → length left ≡ n → i + n ≤ length b₀ → {ys : List ℕ} → ys ≡ over left (part i b) → back i b ys ≡ over whole b₀
  last e h r = ends (piece left (sym (append-nil left)) e h r) refl

-- the first piece: the whole buffer is lent
pub first : {whole l b : List ℕ} (xs : List ℕ) → whole ≡ xs ++ l → {n : ℕ} → length xs ≡ n → n ≤ length b → {b' : List ℕ}
    → b' ≡ over xs b → Writing whole l b b' n
first {whole} {l} {b} xs d {n} e h {b'} q =
    rw zero-add at (more (start {whole = whole} {b = b} refl) xs l d n e (omega arith) b' q)

-- Two pieces of which the one behind is written first: its part from k on came back as b₁, and then xs, k bytes, is
-- written over the start.
pub before : (xs ys b : List ℕ) {k : ℕ} → length xs ≡ k → k ≤ length b → {b₁ : List ℕ} → b₁ ≡ over ys (part k b)
    → over xs (back k b b₁) ≡ over (xs ++ ys) b
unfolding over
before xs ys b {k} e h {b₁} q =
    ap (λ (z : List ℕ). xs ++ z) (ap (drop (length xs)) (back_over k b ys b₁ q)
    ∙ drop_at (take k b) (over ys (drop k b)) (length xs) (length-take-le k b h ∙ sym e))
    ∙ sym (append_assoc xs ys (drop (length ys) (drop k b)))
    ∙ ap (λ (z : List ℕ). (xs ++ ys) ++ z) (drop-drop (length ys) k b ∙ ap (λ (n : ℕ). drop n b) long)
  where
    long : k + length ys ≡ length (xs ++ ys)
    long = let a = length-append xs ys in omega arith

-- Two pieces, one behind the other: the first into the whole buffer, the other into the part behind it.
pub two : (xs ys b : List ℕ) {k m : ℕ} → length xs ≡ k → length ys ≡ m → k + m ≤ length b
    → {b₁ : List ℕ} → b₁ ≡ over xs b → {b₂ : List ℕ} → b₂ ≡ over ys (part k b₁) → back k b₁ b₂ ≡ over (xs ++ ys) b
two xs ys b ex ey h e₁ e₂ = last (first {whole = xs ++ ys} {l = ys} xs refl ex (omega arith) e₁) ey h e₂

-- three pieces likewise
pub three : (xs ys zs b : List ℕ) {k m n : ℕ} → length xs ≡ k → length ys ≡ m → length zs ≡ n → k + m + n ≤ length b
    → {b₁ : List ℕ} → b₁ ≡ over xs b → {b₂ : List ℕ} → b₂ ≡ over ys (part k b₁) → {b₃ : List ℕ}
    → b₃ ≡ over zs (part (k + m) (back k b₁ b₂))
    → back (k + m) (back k b₁ b₂) b₃ ≡ over (xs ++ (ys ++ zs)) b
three xs ys zs b ex ey ez h e₁ e₂ e₃ =
    let one = first {whole = xs ++ (ys ++ zs)} {l = ys ++ zs} xs refl ex (omega arith) e₁ in
    last (piece one ys {l = zs} refl ey (omega arith) e₂) ez h e₃

-- four pieces likewise
pub four : (xs ys zs vs b : List ℕ) {k m n l : ℕ} → length xs ≡ k → length ys ≡ m → length zs ≡ n → length vs ≡ l
    → k + m + n + l ≤ length b
    → {b₁ : List ℕ} → b₁ ≡ over xs b → {b₂ : List ℕ} → b₂ ≡ over ys (part k b₁) → {b₃ : List ℕ}
    → b₃ ≡ over zs (part (k + m) (back k b₁ b₂))
    → {b₄ : List ℕ} → b₄ ≡ over vs (part (k + m + n) (back (k + m) (back k b₁ b₂) b₃))
    → back (k + m + n) (back (k + m) (back k b₁ b₂) b₃) b₄ ≡ over (xs ++ (ys ++ (zs ++ vs))) b
four xs ys zs vs b ex ey ez ev h e₁ e₂ e₃ e₄ =
    let one = first {whole = xs ++ (ys ++ (zs ++ vs))} {l = ys ++ (zs ++ vs)} xs refl ex (omega arith) e₁ in
    last (piece (piece one ys {l = zs ++ vs} refl ey (omega arith) e₂) zs {l = vs} refl ez (omega arith) e₃) ev h e₄
