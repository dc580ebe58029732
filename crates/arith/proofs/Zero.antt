-- How a finite value compares with 0, by its sign bit and its digits. Assumes nothing.
use Rattle.std.proofs.Common.{◌≡◌, ℕ, zero, suc, ◌+◌, ◌*◌, ◌^◌, ◌<◌, ◌≤◌, Bool, true, false, not, T, ◌⊎◌, ℤ, pos, negsuc, refl, inl, inr, lt_of_lt_of_le, lt_irrefl, zero-lt-suc, mul-pos, arith, eqb→eq, ltb→lt, nltb→le}
use native.Mathlib.Nat.{pow-succ'}
use mathlib.Core.Bool.{false≢true}
use lib.Ieee.{Float, nan, inf, fin, binary64, up, down, fits, lt, of_bits}
use lib.Ieee.Fits.{up_pos}
use lib.Ieee.Positive.{positive}
use Rattle.arith.proofs.Tests.{either}

abbrev pub zero_f : Float
zero_f = of_bits binary64 0

pub no-digits : (m : ℕ) (e : ℤ) → m * up e * 1 ≤ 0 → m ≡ 0
no-digits zero e h = refl
no-digits (suc m) e h = absurd (lt_irrefl 0 (lt_of_lt_of_le (mul-pos (mul-pos (zero-lt-suc m) (up_pos e)) (zero-lt-suc 0)) h))

-- a zero is written in one way
pub zero_exponent : (s : Bool) (e : ℤ) → T (fits binary64 (fin s 0 e)) → e ≡ pos 0
unfolding fits
zero_exponent s (pos zero) f = refl
zero_exponent s (pos (suc a)) f = let p = pow-succ' 2 a in let k = eqb→eq (2 ^ suc a * 1) 1 f in absurd (omega arith)
zero_exponent s (negsuc a) f = let p = pow-succ' 2 a in let k = eqb→eq (1 * 2 ^ suc a) 1 f in absurd (omega arith)

pub lt-zero : (s : Bool) (m : ℕ) (e : ℤ) → T (lt (fin s m e) zero_f) → s ≡ true
unfolding lt of_bits
lt-zero true m e h = refl
lt-zero false m e h = let k = ltb→lt (m * up e * 1) (0 * 1 * down e) h in absurd (omega arith)

pub not-lt-zero : (s : Bool) (m : ℕ) (e : ℤ) → T (not (lt (fin s m e) zero_f)) → (s ≡ false) ⊎ (m ≡ 0)
unfolding lt of_bits
not-lt-zero false m e h = inl refl
not-lt-zero true m e h = inr (no-digits m e (let k = nltb→le 0 (m * up e * 1 + 0 * 1 * down e) h in omega arith))

pub zero-lt : (s : Bool) (m : ℕ) (e : ℤ) → T (lt zero_f (fin s m e)) → (s ≡ false) × (0 < m)
unfolding lt of_bits
zero-lt true m e h = absurd h
zero-lt false zero e h = let k = ltb→lt (0 * 1 * down e) (0 * up e * 1) h in absurd (omega arith)
zero-lt false (suc m) e h = (refl, zero-lt-suc m)

pub not-zero-lt : (s : Bool) (m : ℕ) (e : ℤ) → T (not (lt zero_f (fin s m e))) → (s ≡ true) ⊎ (m ≡ 0)
unfolding lt of_bits
not-zero-lt true m e h = inl refl
not-zero-lt false m e h = inr (no-digits m e (let k = nltb→le (0 * 1 * down e) (m * up e * 1) h in omega arith))

pub above_zero : (x : Float) → T (positive x) → T (lt zero_f x)
above_zero nan p = absurd p
above_zero (inf s) p = absurd p
above_zero (fin true m e) p = absurd p
above_zero (fin false m e) p = elim (either (lt zero_f (fin false m e))) [ inl h ↦ h | inr h ↦ let l = ltb→lt 0 m p in absurd (elim (not-zero-lt false m e h) [ inl q ↦ false≢true q | inr z ↦ omega arith ]) ]
