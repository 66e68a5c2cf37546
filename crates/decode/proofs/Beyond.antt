-- An opcode that none of the arms 0 to n - 1 takes is n or more.
use mathlib.Core.Path.{◌≡◌}
use Prim.Native.Nat.{ℕ, zero, suc, ◌≤◌, zero-le}
use native.Mathlib.Omega.{arith}

abbrev NotBelow : ℕ → ℕ → Type 0
NotBelow zero op = Unit {0}
NotBelow (suc n) op = NotBelow n op × (op ≡ n → ⊥)

pub beyond : (n op : ℕ) → NotBelow n op → n ≤ op
beyond zero op r = zero-le
beyond (suc n) op r = let h = beyond n op r.0 in let d = r.1 in omega arith
