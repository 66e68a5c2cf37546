-- A table's bytes are those of its words, lowest first. Assumes nothing.
use mathlib.Core.Path.{◌≡◌, sym, ap, ap₂, ◌∙◌}
use mathlib.Core.List.{List, ◌∷◌, ◌++◌}
use Prim.Native.Nat.{ℕ, zero, suc, ◌+◌, ◌*◌, ◌/◌, ◌%◌, ◌^◌, ◌<◌}
use native.Mathlib.Nat.{zero-add, pow-suc, mul_assoc}
use native.Mathlib.Omega.{arith}
use Rattle.labels.specs.Tables.{whole}
use Rattle.labels.specs.declared.Table.{Table}
use Rattle.labels.proofs.Wide.{Fits}
use Rattle.view_fields.specs.Fields.{little_endian}

-- the bytes of a number of two parts, the lower of j bytes
two_parts : (j k hi lo : ℕ) → lo < 256 ^ j → little_endian (j + k) (hi * 256 ^ j + lo) ≡ little_endian j lo ++ little_endian k hi
unfolding little_endian
two_parts zero k hi lo h =
    ap₂ little_endian (zero-add k) (let e : hi * 1 + lo ≡ hi = omega arith in e)
two_parts (suc j) k hi lo h =
    let p = pow-suc 256 j in
    let apart : hi * 256 ^ suc j ≡ hi * 256 ^ j * 256 = ap (λ (x : ℕ). hi * x) p ∙ sym (mul_assoc hi (256 ^ j) 256) in
    ap (λ (m : ℕ). little_endian m (hi * 256 ^ suc j + lo)) (let e : suc j + k ≡ suc (j + k) = omega arith in e)
    ∙ ap₂ (λ (d : ℕ) (ds : List ℕ). d ∷ ds)
    (let e : (hi * 256 ^ suc j + lo) % 256 ≡ lo % 256 = omega (arith, apart) in e)
    (ap (little_endian (j + k)) (let e : (hi * 256 ^ suc j + lo) / 256 ≡ hi * 256 ^ j + lo / 256 = omega (arith, apart) in e)
    ∙ two_parts j k hi (lo / 256) (omega (arith, p)))

pub table_bytes : (t : Table) → Fits t
    → little_endian 8 t.word0 ++ (little_endian 8 t.word1 ++ (little_endian 8 t.word2 ++ little_endian 8 t.word3))
    ≡ little_endian 32 (whole t)
table_bytes t f =
    sym (two_parts 8 24 _ t.word0 f.fits0
    ∙ ap (λ (bs : List ℕ). little_endian 8 t.word0 ++ bs) (two_parts 8 16 _ t.word1 f.fits1
    ∙ ap (λ (bs : List ℕ). little_endian 8 t.word1 ++ bs) (two_parts 8 8 t.word3 t.word2 f.fits2)))
