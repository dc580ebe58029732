-- A run from a word that is not zero stays in 64 bits and never meets zero: an exclusive-or is zero only of equal words, and a word that is not zero is no shift of itself.
use mathlib.Core.Path.{◌≡◌, refl, sym, ap, ◌∙◌}
use mathlib.Core.Bool.{false}
use mathlib.Core.Logic.{⊎_elim}
use Prim.Native.Nat.{ℕ, zero, suc, ◌*◌, ◌/◌, ◌%◌, ◌^◌, ◌<◌}
use native.Mathlib.Nat.{add-mul, div-add-mod', eq-zero-or-pos, mod-eq_of_lt, mul-add-mod_self_right, mul_assoc, mul-mod_left, mul-one, mul_right_comm, pow-suc, pow-zero}
use native.Mathlib.Omega.{arith}
use lib.Dec.{eqb}
use lib.Bits.{bit_xor, xor_lt, xor_add_and, and_le_l, and_le_r}
use borrow.Author.Tests.{ne_eqb}
use Rattle.std.specs.Prelude.{Float, Ok}
use Rattle.rng_util.specs.declared.Draw.{Draw}
use Rattle.rng_util.specs.Draws.{unit_of, word_draw_of, unit_draw_of}
use Rattle.rng_util.specs.Generator.{xor_left, xor_right, next_of, moved_of}
pub use Rattle.rng_util.specs.Generator.{Nonzero}

-- the test that the draws make
pub nonzero-test : (w : ℕ) → Nonzero w → eqb w 0 ≡ false
nonzero-test w h = ne_eqb w 0 (λ e. omega arith)

mod-product : (a m n : ℕ) → a % n * m % n ≡ a * m % n
mod-product a m n =
    sym (mul-add-mod_self_right (a / n * m) n (a % n * m))
    ∙ ap (λ (x : ℕ). x % n) (rw (mul_right_comm (a / n) m n, ← add-mul (a / n * n) (a % n) m, div-add-mod' a n))

-- a word that m takes to itself, every power of m takes to itself
own-product : (m x n : ℕ) → x < 2 ^ 64 → x ≡ x * m % 2 ^ 64 → x ≡ x * m ^ n % 2 ^ 64
own-product m x zero h e = rw (pow-zero, mul-one) (sym (mod-eq_of_lt h))
own-product m x (suc n) h e =
    e ∙ ap (λ (y : ℕ). y * m % 2 ^ 64) (own-product m x n h e) ∙ mod-product (x * m ^ n) m (2 ^ 64)
    ∙ ap (λ (y : ℕ). y % 2 ^ 64) (rw (mul_assoc, ← pow-suc))

-- so it is zero where a power of m is a multiple of 2^64
not-own-product : (m n q x : ℕ) → m ^ n ≡ q * 2 ^ 64 → Nonzero x → x ≡ x * m % 2 ^ 64 → ⊥
not-own-product m n q x p h e =
    let z : x ≡ 0 = own-product m x n h.1 e ∙ rw (p, ← mul_assoc x q (2 ^ 64)) (mul-mod_left (x * q) (2 ^ 64)) in
    omega arith

xor-zero : (a b : ℕ) → bit_xor a b ≡ 0 → a ≡ b
xor-zero a b e = omega (arith, xor_add_and a b, and_le_l a b, and_le_r a b)

xor-nonzero : (a b : ℕ) → Nonzero a → b < 2 ^ 64 → (a ≡ b → ⊥) → Nonzero (bit_xor a b)
xor-nonzero a b h k other =
    (⊎_elim (λ z. absurd (other (xor-zero a b z))) (λ p. p) (eq-zero-or-pos (bit_xor a b)), xor_lt 64 a b h.1 k)

pub next-nonzero : (w : ℕ) → Nonzero w → Nonzero (next_of w)
unfolding next_of
next-nonzero w h =
    let x = xor_left 13 w in
    let y = xor_right 7 x in
    let hx : Nonzero x = xor-nonzero w (w * 2 ^ 13 % 2 ^ 64) h (omega arith) (not-own-product (2 ^ 13) 5 2 w refl h) in
    let hy : Nonzero y = xor-nonzero x (x / 2 ^ 7) hx (omega arith) (λ e. omega arith) in
    xor-nonzero y (y * 2 ^ 17 % 2 ^ 64) hy (omega arith) (not-own-product (2 ^ 17) 4 16 y refl hy)

pub moved-nonzero : (n w : ℕ) → Nonzero w → Nonzero (moved_of n w)
unfolding moved_of
moved-nonzero zero w h = h
moved-nonzero (suc n) w h = next-nonzero (moved_of n w) (moved-nonzero n w h)

-- the unit float drawn after n moves: no draw there is refused
abbrev pub unit_after : ℕ → ℕ → Draw Float
unit_after n w = record { value = unit_of (moved_of (suc n) w); drawn = 1; next = moved_of (suc n) w }

pub unit-drawn : (n w : ℕ) → Nonzero w → unit_draw_of (moved_of n w) ≡ Ok (unit_after n w)
unfolding word_draw_of unit_draw_of moved_of
unit-drawn n w h = rw (nonzero-test (moved_of n w) (moved-nonzero n w h))
