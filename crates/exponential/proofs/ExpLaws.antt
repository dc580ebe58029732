-- Where exp is accepted and how large it is, about the definition itself. The polynomial is from 0.5 to 1.5, so with a k of at most n in size the answer is from 2 ^ -(n + 1) to 2 ^ (n + 1). Assumes nothing.
use Rattle.refusal.specs.declared.Refusal.TheVariants.{OutOfDomain}
use Rattle.std.specs.Prelude.{Ok, Err}
use Rattle.std.proofs.Common.{◌≡◌, ℕ, zero, suc, ◌+◌, ◌*◌, ◌/◌, ◌^◌, ◌<◌, ◌≤◌, Bool, true, false, cond, not, ◌&&◌, T, ◌⊎◌, List, get_or, ℤ, pos, negsuc, neg_ℤ, sym, refl, ap, ◌∙◌, subst, inl, inr, true≢false, zero-le, arith, pow_pos, pow_mono}
use native.Mathlib.Nat.{div-eq_of_lt}
use lib.Ieee.{Float, nan, inf, fin, binary64, up, down, mul, neg, lt, le, is_nan, of_int, of_bits}
use lib.Ieee.Bits as bits
use lib.Ieee.Fits.{down_pos, and_l, and_r}
use lib.Ieee.Positive.{between, mul_mono}
use lib.Ieee.Scale.{finite}
use Rattle.arith.specs.Bounds.{real, negative, Within, Between, Sign}
use Rattle.arith.specs.Rounding.{nearest_of, round_of}
use Rattle.exponential.specs.Exp.{exp_of, exp_eight_of, none_above, scaled_of, horner_of, reduced_of, whole_of, one, log2e}
use Rattle.arith.specs.Lists.{every, list_of}
use Rattle.arith.specs.Outcome.{value_of}
use Rattle.arith.proofs.Lists.{each-every}
use Rattle.arith.proofs.Tests.{is_false, either}
use Rattle.arith.proofs.Accepted as answers
use Rattle.arith.proofs.Order as order
use Rattle.arith.proofs.Within.{within, bound, upper, lower, mul_in, within-finite}
use Rattle.arith.proofs.Sign.{bit-of, mul-sign}
use Rattle.arith.proofs.Nearest.{nearest-at-most}
use Rattle.exponential.proofs.ExpRange.{product-pos, k-pos}
use Rattle.exponential.proofs.Remainder.{remainder}
use Rattle.exponential.proofs.HornerRange.{horner-range}

-- ---- the order of powers of two
abbrev pow : ℤ → Float
pow z = fin false 1 z

by-cross : (a b : ℤ) → 1 * up a * down b ≤ 1 * up b * down a → T (le (pow a) (pow b))
unfolding le
by-cross a b h = order.→le false (1 * up a * down b) false (1 * up b * down a) h

up_le : (n k : ℕ) → n ≤ k → T (le (pow (pos n)) (pow (pos k)))
up_le n k h = by-cross (pos n) (pos k) (let p : 2 ^ n ≤ 2 ^ k = pow_mono h in omega arith)

down_le : (n k : ℕ) → n ≤ k → T (le (pow (neg_ℤ (pos k))) (pow (neg_ℤ (pos n))))
down_le zero zero h = up_le 0 0 h
down_le zero (suc k) h = by-cross (negsuc k) (pos 0) (let p : 0 < 2 ^ suc k = pow_pos (suc k) in omega arith)
down_le (suc n) zero h = absurd (omega arith)
down_le (suc n) (suc k) h = by-cross (negsuc k) (negsuc n) (let p : 2 ^ suc n ≤ 2 ^ suc k = pow_mono h in omega arith)

power-between : (k n : ℕ) (s : Bool) → n ≤ k → Between (pow (neg_ℤ (pos k))) (pow (pos k)) (pow (cond s (neg_ℤ (pos n)) (pos n)))
power-between k n true h = (down_le n k h, order.le_trans (pow (neg_ℤ (pos n))) (pow (pos 0)) (pow (pos k)) (down_le 0 n zero-le) (up_le 0 k zero-le))
power-between k n false h = (order.le_trans (pow (neg_ℤ (pos k))) (pow (pos 0)) (pow (pos n)) (down_le 0 k zero-le) (up_le 0 n zero-le), up_le n k h)

-- ---- the answer's size, for an x of at most 709 in size
abbrev half : Float
half = fin false 1 (negsuc 0)

abbrev half-more : Float
half-more = fin false 3 (negsuc 0)

polynomial : Float → Float
polynomial x = horner_of 13 (reduced_of x (round_of (mul binary64 x log2e))) one

poly-between : (x : Float) → Within (fin false 709 (pos 0)) x → Between half half-more (polynomial x)
unfolding polynomial
poly-between x w = horner-range (reduced_of x (round_of (mul binary64 x log2e))) (remainder x w)

scaled-by : (x : Float) (lo hi : ℤ) → Within (fin false 709 (pos 0)) x → Between (pow lo) (pow hi) (pow (whole_of (mul binary64 x log2e)))
    → Between (mul binary64 half (pow lo)) (mul binary64 half-more (pow hi)) (scaled_of x (mul binary64 x log2e))
unfolding scaled_of polynomial
scaled-by x lo hi w b =
    let z = whole_of (mul binary64 x log2e) in
    let p = poly-between x w in
    let P = between half (polynomial x) half-more tt tt p.0 p.1 in (
      mul_mono binary64 half (polynomial x) (pow lo) (pow z) tt P tt tt p.0 b.0,
      mul_mono binary64 (polynomial x) half-more (pow z) (pow hi) P tt tt tt p.1 b.1,
    )

pub scaled-between : (k : ℕ) (x : Float) → Within (fin false 709 (pos 0)) x → Within (fin false (8 * k + 3) (negsuc 2)) (mul binary64 x log2e)
    → Between (mul binary64 half (pow (neg_ℤ (pos k)))) (mul binary64 half-more (pow (pos k))) (scaled_of x (mul binary64 x log2e))
unfolding whole_of
scaled-between k x w v = scaled-by x (neg_ℤ (pos k)) (pos k) w (power-between k (nearest_of (mul binary64 x log2e)) (negative (mul binary64 x log2e)) (nearest-at-most k (mul binary64 x log2e) v))

-- ---- where it is accepted
abbrev low_end : Float
low_end = of_int binary64 (negsuc 707)

abbrev high_end : Float
high_end = of_int binary64 (pos 709)

pub accepted : (x : Float) → Between low_end high_end x → exp_of x ≡ Ok (scaled_of x (mul binary64 x log2e))
unfolding exp_of
accepted x b =
    let n = bits.is_false (is_nan x) (order.le-real x high_end b.1).0 in
    let l = is_false (lt x low_end) (λ h. order.lt_not_le x low_end h b.0) in
    let u = is_false (lt high_end x) (λ h. order.lt_not_le high_end x h b.1) in
    rw (n, l, u)

sized : (x : Float) → Between low_end high_end x → Within (fin false 709 (pos 0)) x
unfolding of_int
sized x b = within (fin false 709 (pos 0)) x b.1 (unfold neg in order.le_trans (fin true 709 (pos 0)) (fin true 177 (pos 2)) x (unfold le in tt) b.0)

-- exp x is accepted, and its value is from lo to hi
abbrev pub Accepted : Float → Float → Float → Type 0
Accepted lo hi x = (v : Float) × (exp_of x ≡ Ok v) × Between lo hi v

-- an x of at most b in size, where one computed test holds: the ends, k at most n, and the two powers
tested : ℕ → Float → Float → Float → Bool
tested n b lo hi =
    le low_end (neg b) && le b high_end && (bound b && bound log2e && le (mul binary64 b log2e) (fin false (8 * n + 3) (negsuc 2)))
    && le lo (mul binary64 half (pow (neg_ℤ (pos n)))) && le (mul binary64 half-more (pow (pos n))) hi

by_size : (n : ℕ) (b lo hi x : Float) → T (tested n b lo hi) → Within b x → Accepted lo hi x
unfolding tested
by_size n b lo hi x t w =
    let c1 = le low_end (neg b) in
    let c2 = le b high_end in
    let c3 = bound b && bound log2e && le (mul binary64 b log2e) (fin false (8 * n + 3) (negsuc 2)) in
    let c4 = le lo (mul binary64 half (pow (neg_ℤ (pos n)))) in
    let c5 = le (mul binary64 half-more (pow (pos n))) hi in
    let t4 = and_l (c1 && c2 && c3 && c4) c5 t in
    let t3 = and_l (c1 && c2 && c3) c4 t4 in
    let t2 = and_l (c1 && c2) c3 t3 in
    let r : Between low_end high_end x = (order.le_trans low_end (neg b) x (and_l c1 c2 t2) (lower b x w), order.le_trans x b high_end (upper b x w) (and_r c1 c2 t2)) in
    let v = mul_in binary64 b log2e (fin false (8 * n + 3) (negsuc 2)) x log2e (and_r (c1 && c2) c3 t3) w (unfold le of_bits in tt) in
    let s = scaled-between n x (sized x r) v in (
      scaled_of x (mul binary64 x log2e),
      accepted x r,
      (order.le_trans lo (mul binary64 half (pow (neg_ℤ (pos n)))) (scaled_of x (mul binary64 x log2e)) (and_r (c1 && c2 && c3) c4 t4) s.0, order.le_trans (scaled_of x (mul binary64 x log2e)) (mul binary64 half-more (pow (pos n))) hi s.1 (and_r (c1 && c2 && c3 && c4) c5 t)),
    )

-- a random draw on log scale: |x| ≤ 36.3
pub exp-drawn : (x : Float) → Within (of_bits binary64 0x4042266666666666) x → Accepted (pow (negsuc 52)) (pow (pos 53)) x
exp-drawn x w = by_size 52 (of_bits binary64 0x4042266666666666) (pow (negsuc 52)) (pow (pos 53)) x (unfold tested le mul neg of_int of_bits in tt) w

-- a decode, before its clamp: |x| ≤ 38.1
pub exp-decoded : (x : Float) → Within (of_bits binary64 0x40430ccccccccccd) x → Accepted (pow (negsuc 55)) (pow (pos 56)) x
exp-decoded x w = by_size 55 (of_bits binary64 0x40430ccccccccccd) (pow (negsuc 55)) (pow (pos 56)) x (unfold tested le mul neg of_int of_bits in tt) w

-- ---- no argument up to 0 is refused, and no number gives a NaN
pub exp-nan : exp_of nan ≡ Ok nan
unfolding exp_of is_nan
exp-nan = refl

-- the nearest whole number to a t up to 0 is not above 0
whole-down : (t : Float) → T (finite t) → Sign true t → whole_of t ≡ neg_ℤ (pos (nearest_of t))
unfolding whole_of
whole-down nan F h = absurd F
whole-down (inf s) F h = absurd F
whole-down (fin true m e) F h = refl
whole-down (fin false m e) F h = at (bit-of true false m e h)
  where
    nothing : (u d : ℕ) → 0 < d → (2 * (0 * u) + d) / (2 * d) ≡ 0
    nothing u d D = div-eq_of_lt (let h : 2 * (0 * u) + d < 2 * d = omega arith in h)

    at : (false ≡ true) ⊎ (m ≡ 0) → pos (nearest_of (fin false m e)) ≡ neg_ℤ (pos (nearest_of (fin false m e)))
    at (inl q) = absurd (true≢false (sym q))
    at (inr z) = let n : nearest_of (fin false m e) ≡ 0 = unfold nearest_of in ap (λ (k : ℕ). (2 * (k * up e) + down e) / (2 * down e)) z ∙ nothing (up e) (down e) (down_pos e) in rw n

pub exp-nonpositive : (x : Float) → Sign true x → Accepted (of_bits binary64 0) half-more x
exp-nonpositive x h = elim (either (lt x low_end)) [ inl l ↦ far l | inr l ↦ near l ]
  where
    number : is_nan x ≡ false
    number = bits.is_false (is_nan x) (order.le-real x (of_bits binary64 0) h).0

    far : T (lt x low_end) → Accepted (of_bits binary64 0) half-more x
    far l = (of_bits binary64 0, unfold exp_of in rw (number, bits.is_true (lt x low_end) l), unfold le of_bits in (tt, tt))

    near : T (not (lt x low_end)) → Accepted (of_bits binary64 0) half-more x
    near l =
        let r : Between low_end high_end x = (order.le_of_not_lt x low_end (order.le-real x (of_bits binary64 0) h).0 (unfold is_nan of_int in tt) l, order.le_trans x (of_bits binary64 0) high_end h (unfold le of_int of_bits in tt)) in
        let w = sized x r in
        let t = mul binary64 x log2e in
        let F = within-finite (fin false 709 (pos 0)) x tt w in
        let d = mul-sign true false x log2e F (unfold of_bits in tt) h (unfold le of_bits in tt) in
        let z = whole-down t (within-finite (fin false 8187 (negsuc 2)) t tt (product-pos x w)) d in
        let b : Between (pow (negsuc 1022)) (pow (pos 0)) (pow (whole_of t)) = rw z (down_le (nearest_of t) 1023 (k-pos x w), down_le 0 (nearest_of t) zero-le) in
        let s = scaled-by x (negsuc 1022) (pos 0) w b in (
          scaled_of x t,
          accepted x r,
          (order.le_trans (of_bits binary64 0) (mul binary64 half (pow (negsuc 1022))) (scaled_of x t) (unfold le mul of_bits in tt) s.0, order.le_trans (scaled_of x t) (mul binary64 half-more (pow (pos 0))) half-more s.1 (unfold le mul in tt)),
        )

-- whatever is accepted is not below 0, so it is no NaN, and it is finite
pub exp-finite : (x v : Float) → real x → exp_of x ≡ Ok v → Between (of_bits binary64 0) (fin false 3 (pos 1022)) v
exp-finite x v p e = elim (either (lt x low_end)) [ inl l ↦ far l | inr l ↦ elim (either (lt high_end x)) [ inl u ↦ absurd (over l u) | inr u ↦ near l u ] ]
  where
    number : is_nan x ≡ false
    number = bits.is_false (is_nan x) p

    far : T (lt x low_end) → Between (of_bits binary64 0) (fin false 3 (pos 1022)) v
    far l =
        let q : Ok (of_bits binary64 0) ≡ exp_of x = unfold exp_of in rw (number, bits.is_true (lt x low_end) l) in
        let z : of_bits binary64 0 ≡ v = cc in
        let b : Between (of_bits binary64 0) (fin false 3 (pos 1022)) (of_bits binary64 0) = unfold le of_bits in (tt, tt) in
        subst (λ (y : Float). Between (of_bits binary64 0) (fin false 3 (pos 1022)) y) z b

    over : T (not (lt x low_end)) → T (lt high_end x) → ⊥
    over l u = let q : Err OutOfDomain ≡ exp_of x = unfold exp_of in rw (number, bits.is_false (lt x low_end) l, bits.is_true (lt high_end x) u) in let z : ◌≡◌ {A = ℕ} 0 1 = cc in omega arith

    near : T (not (lt x low_end)) → T (not (lt high_end x)) → Between (of_bits binary64 0) (fin false 3 (pos 1022)) v
    near l u =
        let r : Between low_end high_end x = (order.le_of_not_lt x low_end p (unfold is_nan of_int in tt) l, order.le_of_not_lt high_end x (unfold is_nan of_int in tt) p u) in
        let w = sized x r in
        let s = scaled-between 1023 x w (product-pos x w) in
        subst (λ (y : Float). Between (of_bits binary64 0) (fin false 3 (pos 1022)) y) (let q = accepted x r in cc)
        (order.le_trans (of_bits binary64 0) (mul binary64 half (pow (negsuc 1022))) (scaled_of x (mul binary64 x log2e)) (unfold le mul of_bits in tt) s.0, order.le_trans (scaled_of x (mul binary64 x log2e)) (mul binary64 half-more (pow (pos 1023))) (fin false 3 (pos 1022)) s.1 (unfold le mul in tt))

-- exp of a NaN and of what is not above 0 is accepted
pub exp-accepted : (y : Float) → (y ≡ nan) ⊎ Sign true y → answers.Accepted (exp_of y)
exp-accepted y (inl e) = (nan, ap exp_of e ∙ exp-nan)
exp-accepted y (inr h) = let a = exp-nonpositive y h in (a.0, a.1)

-- so are eight of them
not_above : (y : Float) → (y ≡ nan) ⊎ Sign true y → lt (of_int binary64 (pos 709)) y ≡ false
unfolding lt of_int
not_above y (inl e) = rw e
not_above y (inr h) = is_false (lt (of_int binary64 (pos 709)) y) (λ l. order.lt_not_le (of_int binary64 (pos 709)) y l (order.le_trans y (of_bits binary64 0) (of_int binary64 (pos 709)) h (unfold le of_bits in tt)))

pub eight-accepted : (xs : List Float) → ((p : ℕ) → p < 8 → (get_or xs p nan ≡ nan) ⊎ Sign true (get_or xs p nan)) → exp_eight_of xs ≡ Ok (list_of (λ p. value_of (exp_of (get_or xs p nan))) 8)
unfolding exp_eight_of none_above
eight-accepted xs h =
    let t : ℕ → Bool = λ p. not (lt (of_int binary64 (pos 709)) (get_or xs p nan)) in
    rw (bits.is_true (every 8 t) (each-every 8 t (λ p l. rw (not_above (get_or xs p nan) (h p l)) tt)))
