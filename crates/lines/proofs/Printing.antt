-- The fields of a line: their lengths, and what is left of them as a line is written. Assumes nothing.
use mathlib.Core.Path.{◌≡◌, refl, sym, ap, ap₂, ◌∙◌}
use mathlib.Core.List.{List, [], ◌∷◌, ◌++◌, append_assoc}
use Prim.Native.Nat.{ℕ, zero, suc, ◌+◌, ◌-◌, ◌*◌, ◌≤◌, ◌<◌, ◌/◌, ◌%◌, min}
use native.Mathlib.Omega.{arith}
use borrow.Author.Tests.{lt-ltb, le-ltb}
use lib.ListN.{length, get_or, take, drop, length-append, length-drop, length-take}
use lib.Seq.{drop-drop, take-add}
use Rattle.model.specs.Decoding.{u16}
use Rattle.lines.specs.Lines.{hex_digit, hex, front_fields, record_field_widths, widths, spaced, line, digits, decimal}
use Rattle.lines.specs.Lines.{refused_line}
use Rattle.std.proofs.lemmas.List.{at_drop_more}

-- ── digits ──

pub length_hex : (bs : List ℕ) → length (hex bs) ≡ 2 * length bs
unfolding hex
length_hex [] = refl
length_hex (b ∷ bs) = let e = length_hex bs in omega arith

pub hex_here : (bs : List ℕ) (i : ℕ) → i < length bs
    → hex (drop i bs) ≡ hex_digit (get_or bs i 0 / 16) ∷ hex_digit (get_or bs i 0 % 16) ∷ hex (drop (i + 1) bs)
unfolding hex
hex_here bs i h = at_drop_more hex bs i 0 h

-- ── fields ──

abbrev total : List ℕ → ℕ
total [] = 0
total (w ∷ ws) = w + total ws

total_append : (xs ys : List ℕ) → total (xs ++ ys) ≡ total xs + total ys
total_append [] ys = omega arith
total_append (x ∷ xs) ys = let e = total_append xs ys in omega arith

length_widths : (n : ℕ) → length (widths n) ≡ 7 * n
unfolding widths record_field_widths
length_widths zero = refl
length_widths (suc n) = let e = length_widths n in omega arith

total_widths : (n : ℕ) → total (widths n) ≡ 132 * n
unfolding widths record_field_widths
total_widths zero = refl
total_widths (suc n) = let e = total_widths n in omega arith

-- a space for each field, and two digits for each byte that is there
length_spaced : (ws bs : List ℕ) → length (spaced ws bs) ≡ length ws + 2 * length (take (total ws) bs)
unfolding spaced
length_spaced [] bs = refl
length_spaced (w ∷ ws) bs =
    let e = length_spaced ws (drop w bs) in
    let f = length-append (hex (take w bs)) (spaced ws (drop w bs)) in
    let g = length_hex (take w bs) in
    let t = ap length (take-add w (total ws) bs) ∙ length-append (take w bs) (take (total ws) (drop w bs)) in
    omega arith

spaced_append : (xs ys bs : List ℕ) → spaced (xs ++ ys) bs ≡ spaced xs bs ++ spaced ys (drop (total xs) bs)
unfolding spaced
spaced_append [] ys bs = refl
spaced_append (x ∷ xs) ys bs =
    ap (λ (v : List ℕ). (0x20 ∷ hex (take x bs)) ++ v)
    (spaced_append xs ys (drop x bs) ∙ ap (λ (v : List ℕ). spaced xs (drop x bs) ++ spaced ys v) (drop-drop (total xs) x bs))
    ∙ sym (append_assoc (0x20 ∷ hex (take x bs)) (spaced xs (drop x bs)) (spaced ys (drop (x + total xs) bs)))

-- the field at j, f, and the bytes b behind it
pub spaced_here : (ws rest : List ℕ) (j : ℕ) → j < length ws → {f b : List ℕ} → f ≡ take (get_or ws j 0) rest
    → b ≡ drop (get_or ws j 0) rest
    → spaced (drop j ws) rest ≡ (0x20 ∷ hex f) ++ spaced (drop (j + 1) ws) b
unfolding spaced
spaced_here ws rest j h d e =
    at_drop_more (λ (v : List ℕ). spaced v rest) ws j 0 h
    ∙ ap₂ (λ (u v : List ℕ). (0x20 ∷ hex u) ++ spaced (drop (j + 1) ws) v) (sym d) (sym e)

pub length_field : (f : List ℕ) → length (0x20 ∷ hex f) ≡ 1 + 2 * length f
length_field f = let e = length_hex f in omega arith

-- the fields of the next of m records, k more of which follow
pub record_here : (rest : List ℕ) (m k : ℕ) → m ≡ suc k
    → spaced (widths m) rest ≡ spaced record_field_widths rest ++ spaced (widths k) (drop 132 rest)
unfolding widths record_field_widths
record_here rest m k e = ap (λ (n : ℕ). spaced (widths n) rest) e ∙ spaced_append record_field_widths (widths k) rest

-- ── the line ──

abbrev pub behind_first : List ℕ
behind_first = 2 ∷ 2 ∷ 2 ∷ 2 ∷ 2 ∷ 2 ∷ 32 ∷ 32 ∷ 32 ∷ 32 ∷ 32 ∷ 32 ∷ []

spaced_first : (w : ℕ) (ws bs : List ℕ) → drop 1 (spaced (w ∷ ws) bs) ≡ hex (take w bs) ++ spaced ws (drop w bs)
unfolding spaced
spaced_first w ws bs = refl

regroup : (a b c d : List ℕ) → (a ++ (b ++ c)) ++ d ≡ a ++ (b ++ (c ++ d))
regroup a b c d = simp append_assoc

-- the first field, the others before the records, the records', a line feed
pub line_parts : (v : List ℕ) → line v ≡ hex (take 2 v)
    ++ (spaced behind_first (drop 2 v) ++ (spaced (widths (u16 v 6)) (drop 206 v) ++ (0x0A ∷ [])))
unfolding line front_fields
line_parts v =
    let n = u16 v 6 in
    let records = ap (λ (x : List ℕ). spaced behind_first (drop 2 v) ++ spaced (widths n) x) (drop-drop 204 2 v) in
    let rest = spaced_append behind_first (widths n) (drop 2 v) ∙ records in
    ap (λ (x : List ℕ). x ++ (0x0A ∷ [])) (spaced_first 2 (behind_first ++ widths n) v
    ∙ ap (λ (x : List ℕ). hex (take 2 v) ++ x) rest)
    ∙ regroup (hex (take 2 v)) (spaced behind_first (drop 2 v)) (spaced (widths n) (drop 206 v)) (0x0A ∷ [])

pub length_line : (v : List ℕ) → 13 + 7 * u16 v 6 + 2 * min (206 + 132 * u16 v 6) (length v) ≡ length (line v)
unfolding line front_fields
length_line v =
    let k = u16 v 6 in
    let ws = front_fields ++ widths k in
    let a = length-append (drop 1 (spaced ws v)) (0x0A ∷ []) in
    let b = length-drop 1 (spaced ws v) in
    let s = length_spaced ws v in
    let l = length_widths k in
    let t : total ws ≡ 206 + 132 * k = total_append front_fields (widths k) ∙ (let f = total_widths k in omega arith) in
    let g : length (take (total ws) v) ≡ min (206 + 132 * k) (length v) = length-take (total ws) v
    ∙ ap (λ (x : ℕ). min x (length v)) t in
    omega arith

-- ── a refusal ──

one_digit : (n : ℕ) → n < 10 → decimal n ≡ (0x30 + n) ∷ []
unfolding decimal digits
one_digit zero h = refl
one_digit (suc n) h = rw (lt-ltb (suc n) 10 h)

two_digits : (n : ℕ) → 10 ≤ n → n < 20 → decimal n ≡ 0x31 ∷ (0x30 + (n - 10)) ∷ []
unfolding decimal digits
two_digits zero h g = absurd (omega arith)
two_digits (suc zero) h g = absurd (omega arith)
two_digits (suc (suc n)) h g =
    let e : suc (suc n) / 10 ≡ 1 = omega arith in
    let f : suc (suc n) % 10 ≡ suc (suc n) - 10 = omega arith in
    rw (le-ltb (suc (suc n)) 10 h, e, f)

abbrev pub refused_text : List ℕ
refused_text = 0x72 ∷ 0x65 ∷ 0x66 ∷ 0x75 ∷ 0x73 ∷ 0x65 ∷ 0x64 ∷ 0x20 ∷ []

-- the line of a number below 10, and of one from 10 to 19
pub refused_short : (n : ℕ) → n < 10 → refused_line n ≡ refused_text ++ ((0x30 + n) ∷ 0x0A ∷ [])
unfolding refused_line
refused_short n h = rw (one_digit n h)

pub refused_long : (n : ℕ) → 10 ≤ n → n < 20 → refused_line n ≡ refused_text ++ (0x31 ∷ (0x30 + (n - 10)) ∷ 0x0A ∷ [])
unfolding refused_line
refused_long n h g = rw (two_digits n h g)
