-- A number cut into digits of w bits, lowest first: by masks and shifts, as the code cuts it, and by remainder and
-- division, as the definitions do. Assumes nothing.
use mathlib.Core.Path.{◌≡◌, refl, ap, ap₂, ◌∙◌}
use mathlib.Core.List.{List, [], ◌∷◌}
use Prim.Native.Nat.{ℕ, zero, suc, ◌-◌, ◌/◌, ◌%◌, ◌^◌, ◌<◌}
use native.Mathlib.Omega.{arith}
use lib.Bits.{bit_and, and_mask}
use Rattle.view_fields.specs.Fields.{little_endian}

-- the k lowest digits of n: `n & (2 ^ w - 1)`, then those of `n >> w`
unfoldable pub masked : ℕ → ℕ → ℕ → List ℕ
masked w zero n = []
masked w (suc k) n = bit_and n (2 ^ w - 1) ∷ masked w k (n / 2 ^ w)

unfoldable divided : ℕ → ℕ → ℕ → List ℕ
divided w zero n = []
divided w (suc k) n = n % 2 ^ w ∷ divided w k (n / 2 ^ w)

-- The two agree, for digits of any width and any number of them.
same_digits : (w k n : ℕ) → masked w k n ≡ divided w k n
unfolding masked divided
same_digits w zero n = refl
same_digits w (suc k) n = ap₂ (λ (d : ℕ) (ds : List ℕ). d ∷ ds) (and_mask n w) (same_digits w k (n / 2 ^ w))

-- ── bytes ──

divided_bytes : (k n : ℕ) → divided 8 k n ≡ little_endian k n
unfolding divided little_endian
divided_bytes zero n = refl
divided_bytes (suc k) n = ap (λ (ds : List ℕ). n % 256 ∷ ds) (divided_bytes k (n / 256))

pub masked_bytes : (k n : ℕ) → masked 8 k n ≡ little_endian k n
masked_bytes k n = same_digits 8 k n ∙ divided_bytes k n

-- ── hex digits ──

-- the two of a byte, the low one first
pub masked_hex : (b : ℕ) → b < 256 → masked 4 2 b ≡ b % 16 ∷ b / 16 ∷ []
unfolding divided
masked_hex b h = same_digits 4 2 b ∙ ap (λ (d : ℕ). b % 16 ∷ d ∷ []) (let e : b / 16 % 16 ≡ b / 16 = omega arith in e)
