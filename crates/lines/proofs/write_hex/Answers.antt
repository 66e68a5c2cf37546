-- Each turn writes the two digits of a byte.
use Rattle.std.proofs.Common.{◌≡◌, sym, ap, ap₂, subst, ◌∙◌, arith, List, [], ◌∷◌, ℕ, ◌+◌, ◌*◌, ◌/◌, ◌<◌, length, get_or, drop}
use Rattle.std.proofs.Common.{bit_and, refl}
use Rattle.std.proofs.lemmas.List.{drop_all}
use Rattle.lines.specs.Lines.{hex_digit, hex}
use Rattle.view_fields.proofs.Buffers.{Writing, piece, ends}
use Rattle.view_fields.proofs.Digits.{masked, masked_hex}
use Rattle.lines.proofs.Printing.{hex_here}
use Rattle.lines.proofs.write_hex.Goals as goal

-- the byte at i has the digits x and y
here : (bs : List ℕ) (i : ℕ) {x y : ℕ} → i < length bs → x ≡ hex_digit (get_or bs i 0 / 16)
    → y ≡ hex_digit (bit_and (get_or bs i 0) 15) → get_or bs i 0 < 256
    → hex (drop i bs) ≡ x ∷ y ∷ hex (drop (i + 1) bs)
unfolding masked
here bs i h d e small =
    let low = ap (λ (ds : List ℕ). get_or ds 0 0) (masked_hex (get_or bs i 0) small) in
    hex_here bs i h
    ∙ ap₂ (λ (u v : ℕ). u ∷ v ∷ hex (drop (i + 1) bs)) (sym d) (sym (e ∙ ap hex_digit low))

pub loop-i-preserved : goal.loop-i-preserved
loop-i-preserved c =
    let i = c.loop-i.i in
    let digits = c.hex_digit.result ∷ c.hex_digit-in-loop-i.result ∷ [] in
    let next = here c.args.bytes.now i c.loop-i-test.true c.hex_digit.ensures c.hex_digit-in-loop-i.ensures (omega arith) in
    subst (Writing _ _ _ _) (let e : 2 * i + 2 ≡ 2 * (i + 1) = omega arith in e)
    (piece c.loop-i.invariant digits next refl (omega (arith, c.requires)) c.write_pair.ensures)

pub returns : goal.returns
unfolding hex
returns c = ends c.loop-i.invariant (ap hex (drop_all c.loop-i.i c.args.bytes.now c.loop-i-test.false))
