-- Differences of words.
use Rattle.std.proofs.Common.{◌≡◌, ℕ, ◌+◌, ◌-◌, ◌%◌, ◌^◌, ◌<◌, arith}

-- a difference of words, from what it is with the word taken away put back
pub wrapped : (x y r : ℕ) → x < 2 ^ 32 → y < 2 ^ 32 → r < 2 ^ 32 → (r + y) % 2 ^ 32 ≡ x → r ≡ (x + 2 ^ 32 - y) % 2 ^ 32
wrapped x y r a b h e = omega arith
