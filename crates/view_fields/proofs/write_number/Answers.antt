-- Each turn writes the lowest byte of what is left of the number; by `masked_bytes` these are the definition's bytes.
use Rattle.std.proofs.Common.{◌≡◌, List, [], ◌∷◌, ◌++◌, ℕ, suc, ◌+◌, ◌-◌, ◌/◌, ◌<◌, ◌≤◌, length, take, drop, set, bit_and}
use Rattle.std.proofs.Common.{sym, ap, ap₂, ◌∙◌, arith, append_assoc}
use Rattle.std.proofs.lemmas.List.{take_all, take_more_set, append-nil, length-take-le}
use Rattle.view_fields.specs.Fields.{little_endian}
use Rattle.view_fields.specs.Writing.{over}
use Rattle.view_fields.proofs.Digits.{masked, masked_bytes}
use Rattle.view_fields.proofs.Widths.{length_number}
use Rattle.view_fields.proofs.write_number.Goals as goal

-- one byte more
byte_more : (bs v : List ℕ) (k i n : ℕ) → i < length bs → i < k → take i bs ++ masked 8 (k - i) n ≡ v
    → take (i + 1) (set bs i (bit_and n 255)) ++ masked 8 (k - (i + 1)) (n / 256) ≡ v
unfolding masked
byte_more bs v k i n h g e =
    ap (λ (xs : List ℕ). xs ++ masked 8 (k - (i + 1)) (n / 256)) (take_more_set bs i (bit_and n 255) h)
    ∙ append_assoc (take i bs) (bit_and n 255 ∷ []) (masked 8 (k - (i + 1)) (n / 256))
    ∙ ap (λ (m : ℕ). take i bs ++ masked 8 m n) (let f : suc (k - (i + 1)) ≡ k - i = omega arith in f) ∙ e

-- and none
no_more : (bs v : List ℕ) (k i n : ℕ) → length bs ≤ i → k ≤ i → take i bs ++ masked 8 (k - i) n ≡ v → bs ≡ v
unfolding masked
no_more bs v k i n h g e =
    let none = ap (λ (m : ℕ). masked 8 m n) (let f : 0 ≡ k - i = omega arith in f) in
    sym (append-nil bs) ∙ ap₂ (λ (xs ys : List ℕ). xs ++ ys) (sym (take_all i bs h)) none ∙ e

pub loop-b-init : goal.loop-b-init
loop-b-init c =
    let a = c.args in
    ap (λ (m : ℕ). masked 8 m a.n) (let e : a.width - 0 ≡ a.width = omega arith in e) ∙ masked_bytes a.width a.n

pub loop-b-preserved : goal.loop-b-preserved
loop-b-preserved c =
    let a = c.args in
    let w = length-take-le a.width a.out.now c.requires in
    byte_more c.loop-b.b-items (little_endian a.width a.n) a.width c.loop-b.b-index c.loop-b.rest (omega (arith, w))
    (omega (arith, w))
    c.loop-b.invariant

pub returns : goal.returns
unfolding over
returns c =
    let a = c.args in
    let w = length-take-le a.width a.out.now c.requires in
    let all = no_more c.loop-b.b-items (little_endian a.width a.n) a.width c.loop-b.b-index c.loop-b.rest in
    let e = all (omega (arith, w)) (omega (arith, w)) c.loop-b.invariant in
    ap₂ (λ (xs : List ℕ) (m : ℕ). xs ++ drop m a.out.now) e (sym (length_number a.width a.n))
