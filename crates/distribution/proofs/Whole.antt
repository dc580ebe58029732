-- Facts on the tests of whole numbers, by cases on the signs. Assumes nothing.
use mathlib.Core.Path.{◌≡◌}
use Prim.Native.Nat.{ℕ, zero, suc, ◌≤◌, suc-le-suc}
use native.Mathlib.Nat.{le_refl, le_trans}
use lib.Dec.{T, leb→le, le→leb}
use lib.IntN.{ℤ, pos, negsuc, neg_ℤ, nat_abs}
use lib.Signed.{le_z}
use mir.Syntax.{w64}
use mir.Val.{to_z, of_z}

-- what a signed local holds are the bits of z, and they are read as z
abbrev pub ReadBack : ℤ → Type 0
ReadBack z = to_z w64 (of_z w64 z) ≡ z

pub le_z-refl : (z : ℤ) → T (le_z z z)
le_z-refl (pos n) = le→leb n n (le_refl n)
le_z-refl (negsuc n) = le→leb n n (le_refl n)

pub le_z-trans : (a b c : ℤ) → T (le_z a b) → T (le_z b c) → T (le_z a c)
le_z-trans (pos a) (pos b) (pos c) h k = le→leb a c (le_trans (leb→le a b h) (leb→le b c k))
le_z-trans (pos a) (pos b) (negsuc c) h k = k
le_z-trans (pos a) (negsuc b) c h k = absurd h
le_z-trans (negsuc a) b (pos c) h k = tt
le_z-trans (negsuc a) (pos b) (negsuc c) h k = absurd k
le_z-trans (negsuc a) (negsuc b) (negsuc c) h k = le→leb c a (le_trans (leb→le c b k) (leb→le b a h))

-- from -n to n, so at most n in magnitude
pub magnitude : (n : ℕ) (z : ℤ) → T (le_z (neg_ℤ (pos n)) z) → T (le_z z (pos n)) → nat_abs z ≤ n
magnitude n (pos m) p q = leb→le m n q
magnitude zero (negsuc m) p q = absurd p
magnitude (suc n) (negsuc m) p q = suc-le-suc (leb→le m n p)
