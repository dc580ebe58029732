-- A value that a format holds is what `round` makes of its own fraction: it is exact, and two values that the format holds with the same sign and size have the same bit pattern. Assumes nothing.
use Rattle.std.proofs.Common.{◌≡◌, ℕ, zero, suc, ◌+◌, ◌-◌, ◌*◌, ◌/◌, ◌%◌, ◌^◌, ◌<◌, Bool, cond, ◌&&◌, T, eqb, ltb, leb, ℤ, sym, refl, ap, ◌∙◌, le_of_eq, lt_of_lt_of_le, lt_of_le_of_lt, add_comm, lt_of_mul-lt-mul_right, mul-lt-mul_of_pos_right, mul-pos, zero-mul, mul_right_comm, ltb→lt, pow_pos, pow-add}
use lib.Ieee.{Float, fin, Format, prec, emax, low, up, down, round, size, fits, to_bits, of_bits, top, hid}
use lib.Ieee.Bits.{of_bits-to_bits}
use lib.Ieee.Exact.{HasValue, round_exact}
use lib.Ieee.Fits.{down_pos, and_r, round-fits}
use lib.Ieee.Nearest.{div_same}
use Rattle.arith.proofs.Nearest.{grid-form}

-- ---- the bits of a value, by its sign and its size
written : Format → Bool → ℕ → ℕ
written f s n = cond s (top f) 0 + (size n - prec f) * hid f + n / 2 ^ (size n - prec f)

bits : (f : Format) (x : Float) (s : Bool) (a c : ℕ) → 0 < c → HasValue x s a c → to_bits f x ≡ written f s (a * 2 ^ low f / c)
unfolding to_bits written
bits f (fin t m e) s a c C v =
    ap (λ (b : Bool). written f b (m * up e * 2 ^ low f / down e)) v.0
    ∙ ap (written f s)
    (div_same (m * up e * 2 ^ low f) (down e) (a * 2 ^ low f) c (down_pos e) C
    (mul_right_comm (m * up e) (2 ^ low f) c ∙ ap (λ (n : ℕ). n * 2 ^ low f) v.1 ∙ mul_right_comm a (down e) (2 ^ low f)))
bits f lib.Ieee.nan s a c C v = elim v [ ]
bits f (lib.Ieee.inf _) s a c C v = elim v [ ]

pub same-value : (f : Format) (x y : Float) (s : Bool) (a c : ℕ) → 0 < c → T (fits f x) → T (fits f y) → HasValue x s a c → HasValue y s a c → x ≡ y
same-value f x y s a c C t u v w = sym (of_bits-to_bits f x t) ∙ ap (of_bits f) (bits f x s a c C v ∙ sym (bits f y s a c C w)) ∙ of_bits-to_bits f y u

-- ---- a value that fits is exact
pub below_end : (f : Format) (s : Bool) (m : ℕ) (e : ℤ) → T (fits f (fin s m e)) → m * up e < 2 ^ suc (emax f) * down e
unfolding fits
below_end f s zero e t = lt_of_le_of_lt (le_of_eq (zero-mul (up e))) (mul-pos (pow_pos (suc (emax f))) (down_pos e))
below_end f s (suc m) e t =
    ltb→lt (suc m * up e) (2 ^ suc (emax f) * down e)
    (and_r (eqb (suc m % 2) 1 && ltb (suc m) (2 ^ prec f) && leb (down e) (2 ^ low f)) (ltb (suc m * up e) (2 ^ suc (emax f) * down e)) t)

pub held : (f : Format) (s : Bool) (m : ℕ) (e : ℤ) → T (fits f (fin s m e)) → round f s (m * up e) (down e) ≡ fin s m e
held f s m e t =
    let g = grid-form f s m e t in
    let j = g.1.0 in
    same-value f (round f s (m * up e) (down e)) (fin s m e) s (m * up e) (down e) (down_pos e) (round-fits f s (m * up e) (down e)) t
    (round_exact f s (m * up e) (down e) m j (down_pos e) g.0
    (lt_of_mul-lt-mul_right (down e)
    (lt_of_le_of_lt (le_of_eq (sym g.1.1))
    (lt_of_lt_of_le (mul-lt-mul_of_pos_right (below_end f s m e t) (pow_pos (low f)))
    (le_of_eq (mul_right_comm (2 ^ suc (emax f)) (down e) (2 ^ low f) ∙ ap (λ (n : ℕ). n * down e) (sym (pow-add 2 (suc (emax f)) (low f)) ∙ ap (λ (n : ℕ). 2 ^ n) (add_comm (suc (emax f)) (low f))))))))
    g.1.1)
    (refl, refl)
