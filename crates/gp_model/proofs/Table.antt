-- Where a table's cell lies: within the table, and within 2,000 places. Assumes nothing.
use Prim.Native.Nat.{ℕ, ◌+◌, ◌*◌, ◌≤◌}
use native.Mathlib.Nat.{mul-le-mul, mul-le-mul_right}
use native.Mathlib.Omega.{arith}

pub table-small : (n d : ℕ) → n ≤ 100 → d ≤ 20 → n * d ≤ 2000
table-small n d p q = mul-le-mul p q

-- a row before row i ends before row i ends
pub row_before : (j i d : ℕ) → j ≤ i → j * d + d ≤ i * d + d
row_before j i d h = let l : j * d ≤ i * d = mul-le-mul_right d h in omega arith
