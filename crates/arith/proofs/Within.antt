-- `Within b x`, for a finite b that is not negative: x is finite, and at most b in size.
-- A product, a sum, a difference and a quotient of bounded values is bounded by what the same operation gives of the bounds. Assumes nothing.
use Rattle.std.proofs.Common.{◌≡◌, ℕ, zero, suc, ◌+◌, ◌-◌, ◌*◌, ◌^◌, ◌<◌, ◌≤◌, Bool, true, false, cond, not, ◌&&◌, ◌||◌, T, eqb, ltb, ℤ, sym, refl, ap, ◌∙◌, subst, inl, inr, le_trans, le_of_eq, le_refl, lt_of_lt_of_le, le_of_lt, lt_irrefl, mul-le-mul_right, mul_assoc, mul_comm, add-mul, mul-le-mul, mul-pos, mul_left_comm, arith, eqb→eq, ltb→lt}
use Prim.Native.Nat.compare
use native.Mathlib.Nat.{mul-mul-mul_comm, mul-sub}
use mathlib.Core.Bool.{beq}
use lib.Dec.{compare_is_eq}
use lib.Ieee.{Float, nan, inf, fin, Format, prec, emax, low, up, down, unlike, odd, units, round, sum, add, sub, neg, mul, div, le, is_nan}
use lib.Ieee.Fits.{up_pos, down_pos, and_l, and_r}
use lib.Ieee.Order.{round_mono}
use lib.Ieee.Scale.{finite}
use lib.Ieee.Positive.{through}
use Rattle.arith.specs.Bounds.{real, abs, negative, Within}
use Rattle.arith.proofs.Tests.{or_split}
use Rattle.arith.proofs.Order as order

-- ---- rounding does not look at the sign
abs-odd : (d : ℕ) (s : Bool) (q k l : ℕ) → abs (odd d s q k l) ≡ odd d false q k l
unfolding odd
abs-odd d s zero k l = refl
abs-odd d s (suc q) k l = refl

abs-cond : (b : Bool) (x y x' y' : Float) → abs x ≡ x' → abs y ≡ y' → abs (cond b x y) ≡ cond b x' y'
abs-cond true x y x' y' p q = p
abs-cond false x y x' y' p q = q

abs-units : (f : Format) (s : Bool) (q k : ℕ) → abs (units f s q k) ≡ units f false q k
unfolding units
abs-units f s q k = abs-cond (ltb (q * 2 ^ k) (2 ^ (low f + suc (emax f)))) (odd (suc (prec f)) s q k (low f)) (inf s) (odd (suc (prec f)) false q k (low f)) (inf false) (abs-odd (suc (prec f)) s q k (low f)) refl

pub abs-round : (f : Format) (s : Bool) (n d : ℕ) → abs (round f s n d) ≡ round f false n d
unfolding round
abs-round f s n d = abs-units f s _ _

-- ---- the order of two values that are not negative, as that of fractions
lt-or-eq : (a b : ℕ) → T (ltb a b || (eqb a b && true)) → a ≤ b
lt-or-eq a b t = elim (or_split (ltb a b) (eqb a b && true) t) [ inl u ↦ le_of_lt (ltb→lt a b u) | inr u ↦ le_of_eq (eqb→eq a b (and_l (eqb a b) true u)) ]

pub cross : (m : ℕ) (e : ℤ) (n : ℕ) (d : ℤ) → T (le (fin false m e) (fin false n d)) → m * up e * down d ≤ n * up d * down e
unfolding le
cross m e n d h = lt-or-eq (m * up e * down d) (n * up d * down e) h

-- ---- the product
pub mul-within : (f : Format) (b c : ℕ) (g h : ℤ) (x y : Float) → Within (fin false b g) x → Within (fin false c h) y
    → Within (mul f (fin false b g) (fin false c h)) (mul f x y)
unfolding mul le
mul-within f b c g h nan y p q = absurd p
mul-within f b c g h (inf s) y p q = absurd p
mul-within f b c g h (fin s m e) nan p q = absurd q
mul-within f b c g h (fin s m e) (inf t) p q = absurd q
mul-within f b c g h (fin s m e) (fin t n d) p q =
    subst (λ (z : Float). T (le z (round f false (b * up g * (c * up h)) (down g * down h)))) (sym (abs-round f (unlike s t) (m * up e * (n * up d)) (down e * down d)))
    (round_mono f (m * up e * (n * up d)) (down e * down d) (b * up g * (c * up h)) (down g * down h) (mul-pos (down_pos e) (down_pos d)) (mul-pos (down_pos g) (down_pos h))
    (le_trans (le_of_eq (mul-mul-mul_comm (m * up e) (n * up d) (down g) (down h)))
    (le_trans (mul-le-mul (cross m e b g p) (cross n d c h q)) (le_of_eq (mul-mul-mul_comm (b * up g) (down e) (c * up h) (down d))))))

-- ---- the sum: ±x ± y is at most x + y in size
less : (a b p q : ℕ) → a ≤ p → b ≤ q → a - b ≤ p + q
less a b p q h k = omega arith

both : (a b p q : ℕ) → a ≤ p → b ≤ q → a + b ≤ p + q
both a b p q h k = omega arith

-- n / c where n is a sum or a difference of the two
sum-le : (f : Format) (s t : Bool) (a b c N D : ℕ) → 0 < c → 0 < D → (a + b) * D ≤ N * c → T (le (abs (sum f s a t b c)) (round f false N D))
unfolding sum
sum-le f s t a b c N D C DD h = go (beq s t) (ltb a b)
  where
    one : (u : Bool) (n : ℕ) → n ≤ a + b → T (le (abs (round f u n c)) (round f false N D))
    one u n k =
        subst (λ (z : Float). T (le z (round f false N D))) (sym (abs-round f u n c))
        (round_mono f n c N D C DD (le_trans (mul-le-mul_right D k) h))

    go : (x y : Bool) → T (le (abs (cond x (round f s (a + b) c) (cond y (round f t (b - a) c) (round f (s && ltb b a) (a - b) c)))) (round f false N D))
    go true y = one s (a + b) (le_refl (a + b))
    go false true = one t (b - a) (omega arith)
    go false false = one (s && ltb b a) (a - b) (omega arith)

-- m / e ≤ b / g and n / d ≤ c / h, so m / e + n / d ≤ b / g + c / h
sum-cross : (m e n d b g c h : ℕ) → m * g ≤ b * e → n * h ≤ c * d → (m * d + n * e) * (g * h) ≤ (b * h + c * g) * (e * d)
sum-cross m e n d b g c h p q =
    let x : m * d * (g * h) ≤ b * h * (e * d) = simp (mul_assoc, mul_comm, mul_left_comm) (simp (mul_assoc, mul_comm, mul_left_comm) at (mul-le-mul_right (d * h) p)) in
    let y : n * e * (g * h) ≤ c * g * (e * d) = simp (mul_assoc, mul_comm, mul_left_comm) (simp (mul_assoc, mul_comm, mul_left_comm) at (mul-le-mul_right (e * g) q)) in
    le_trans (le_of_eq (add-mul (m * d) (n * e) (g * h))) (le_trans (both (m * d * (g * h)) (n * e * (g * h)) (b * h * (e * d)) (c * g * (e * d)) x y) (le_of_eq (sym (add-mul (b * h) (c * g) (e * d)))))

pub add-within : (f : Format) (b c : ℕ) (g h : ℤ) (x y : Float) → Within (fin false b g) x → Within (fin false c h) y
    → Within (add f (fin false b g) (fin false c h)) (add f x y)
unfolding add le
add-within f b c g h nan y p q = absurd p
add-within f b c g h (inf s) y p q = absurd p
add-within f b c g h (fin s m e) nan p q = absurd q
add-within f b c g h (fin s m e) (inf t) p q = absurd q
add-within f b c g h (fin s m e) (fin t n d) p q =
    unfold sum in
    sum-le f s t (m * up e * down d) (n * up d * down e) (down e * down d) (b * up g * down h + c * up h * down g) (down g * down h) (mul-pos (down_pos e) (down_pos d)) (mul-pos (down_pos g) (down_pos h))
    (sum-cross (m * up e) (down e) (n * up d) (down d) (b * up g) (down g) (c * up h) (down h) (cross m e b g p) (cross n d c h q))

pub neg-within : (b x : Float) → Within b x → Within b (neg x)
unfolding neg
neg-within b nan p = p
neg-within b (inf s) p = p
neg-within b (fin s m e) p = p

pub sub_within : (f : Format) (b c : ℕ) (g h : ℤ) (x y : Float) → Within (fin false b g) x → Within (fin false c h) y
    → Within (add f (fin false b g) (fin false c h)) (sub f x y)
unfolding sub
sub_within f b c g h x y p q = add-within f b c g h x (neg y) p (neg-within (fin false c h) y q)

-- ---- the quotient, by a finite divisor of size c or more
div-cross : (m e n d b g c h : ℕ) → m * g ≤ b * e → c * d ≤ n * h → m * d * (c * g) ≤ b * h * (n * e)
div-cross m e n d b g c h p q =
    simp (mul_assoc, mul_comm, mul_left_comm) (simp (mul_assoc, mul_comm, mul_left_comm) at (mul-le-mul p q))

pos_of : (c k : ℕ) → 0 < c * k → 0 < c
pos_of zero k h = absurd (omega arith)
pos_of (suc c) k h = omega arith

pub div-within : (f : Format) (b c : ℕ) (g h : ℤ) (x y : Float) → 0 < c → T (finite y) → Within (fin false b g) x → T (le (fin false c h) (abs y))
    → Within (div f (fin false b g) (fin false c h)) (div f x y)
unfolding div le
div-within f b c g h nan y C F p q = absurd p
div-within f b c g h (inf s) y C F p q = absurd p
div-within f b c g h (fin s m e) nan C F p q = absurd q
div-within f b c g h (fin s m e) (inf t) C F p q = absurd F
div-within f b c g h (fin s m e) (fin t n d) C F p q =
    let k = cross c h n d q in
    let N : 0 < n = pos_of n (up d * down h) (subst (λ (z : ℕ). 0 < z) (mul_assoc n (up d) (down h)) (lt_of_lt_of_le (mul-pos (mul-pos C (up_pos h)) (down_pos d)) k)) in
    rw (off n N, off c C)
    (subst (λ (z : Float). T (le z (round f false (b * up g * down h) (c * up h * down g)))) (sym (abs-round f (unlike s t) (m * up e * down d) (n * up d * down e)))
    (round_mono f (m * up e * down d) (n * up d * down e) (b * up g * down h) (c * up h * down g) (mul-pos (mul-pos N (up_pos d)) (down_pos e)) (mul-pos (mul-pos C (up_pos h)) (down_pos g))
    (div-cross (m * up e) (down e) (n * up d) (down d) (b * up g) (down g) (c * up h) (down h) (cross m e b g p) k)))
  where
    off : (n : ℕ) → 0 < n → eqb n 0 ≡ false
    off zero h = absurd (lt_irrefl 0 h)
    off (suc n) h = ap compare_is_eq (compare.suc-zero n)

-- ---- a coarser bound, by one computed test: under `unfolding mul le`, or the operation at hand, `tt` proves it
pub widen : (b d x : Float) → T (le b d) → Within b x → Within d x
widen b d x h p = order.le_trans (abs x) b d p h

abbrev pub mag : Float → ℕ
mag nan = 0
mag (inf s) = 0
mag (fin s m e) = m

abbrev pub bound : Float → Bool
bound nan = false
bound (inf s) = false
bound (fin s m e) = not s

-- what holds of two sizes holds of two bounds
pub sizes : (P : Float → Float → Type 0) → ((m n : ℕ) (e d : ℤ) → P (fin false m e) (fin false n d)) → (b c : Float) → T (bound b && bound c) → P b c
sizes P h (fin false m e) (fin false n d) t = h m n e d
sizes P h nan c t = elim t [ ]
sizes P h (inf _) c t = elim t [ ]
sizes P h (fin false m e) nan t = elim t [ ]
sizes P h (fin false m e) (inf _) t = elim t [ ]
sizes P h (fin false m e) (fin true n d) t = elim t [ ]
sizes P h (fin true m e) c t = elim t [ ]

pub mul_in : (f : Format) (b c d x y : Float) → T (bound b && bound c && le (mul f b c) d) → Within b x → Within c y → Within d (mul f x y)
mul_in f b c d x y t =
    sizes (λ b c. T (le (mul f b c) d) → Within b x → Within c y → Within d (mul f x y)) (λ m n e g k p q. widen (mul f (fin false m e) (fin false n g)) d (mul f x y) k (mul-within f m n e g x y p q))
    b c (and_l (bound b && bound c) (le (mul f b c) d) t) (and_r (bound b && bound c) (le (mul f b c) d) t)

pub add-in : (f : Format) (b c d x y : Float) → T (bound b && bound c && le (add f b c) d) → Within b x → Within c y → Within d (add f x y)
add-in f b c d x y t =
    sizes (λ b c. T (le (add f b c) d) → Within b x → Within c y → Within d (add f x y)) (λ m n e g k p q. widen (add f (fin false m e) (fin false n g)) d (add f x y) k (add-within f m n e g x y p q))
    b c (and_l (bound b && bound c) (le (add f b c) d) t) (and_r (bound b && bound c) (le (add f b c) d) t)

pub sub_in : (f : Format) (b c d x y : Float) → T (bound b && bound c && le (add f b c) d) → Within b x → Within c y → Within d (sub f x y)
sub_in f b c d x y t =
    sizes (λ b c. T (le (add f b c) d) → Within b x → Within c y → Within d (sub f x y)) (λ m n e g k p q. widen (add f (fin false m e) (fin false n g)) d (sub f x y) k (sub_within f m n e g x y p q))
    b c (and_l (bound b && bound c) (le (add f b c) d) t) (and_r (bound b && bound c) (le (add f b c) d) t)

-- ---- a bound on the size is one on either side
pub le-abs : (x : Float) → real x → T (le x (abs x)) × T (le (neg (abs x)) x)
unfolding le neg is_nan
le-abs nan p = absurd p
le-abs (inf true) p = (tt, tt)
le-abs (inf false) p = (tt, tt)
le-abs (fin false m e) p = (order.reflexive (fin false m e) p, order.→le true (m * up e * down e) false (m * up e * down e) tt)
le-abs (fin true m e) p = (order.→le true (m * up e * down e) false (m * up e * down e) tt, order.reflexive (fin true m e) p)

pub abs-real : (x : Float) → real (abs x) → real x
unfolding is_nan
abs-real nan p = p
abs-real (inf s) p = p
abs-real (fin s m e) p = p

pub upper : (b x : Float) → Within b x → T (le x b)
upper b x w = order.le_trans x (abs x) b (le-abs x (abs-real x (order.le-real (abs x) b w).0)).0 w

pub lower : (b x : Float) → Within b x → T (le (neg b) x)
lower b x w = order.le_trans (neg b) (neg (abs x)) x (order.neg-anti (abs x) b w) (le-abs x (abs-real x (order.le-real (abs x) b w).0)).1

pub within : (b x : Float) → T (le x b) → T (le (neg b) x) → Within b x
unfolding neg le
within b x h k = go x h (subst (λ (z : Float). T (le (neg x) z)) (order.neg-neg b) (order.neg-anti (neg b) x k))
  where
    go : (x : Float) → T (le x b) → T (le (neg x) b) → Within b x
    go nan h k = h
    go (inf false) h k = h
    go (inf true) h k = k
    go (fin false m e) h k = h
    go (fin true m e) h k = k

-- ---- rounding and the sign
neg-odd : (d : ℕ) (q k l : ℕ) → neg (odd d false q k l) ≡ odd d true q k l
unfolding odd neg
neg-odd d zero k l = refl
neg-odd d (suc q) k l = refl

neg-units : (f : Format) (q k : ℕ) → neg (units f false q k) ≡ units f true q k
unfolding units neg
neg-units f q k = go (ltb (q * 2 ^ k) (2 ^ (low f + suc (emax f))))
  where
    go : (b : Bool) → neg (cond b (odd (suc (prec f)) false q k (low f)) (inf false)) ≡ cond b (odd (suc (prec f)) true q k (low f)) (inf true)
    go true = neg-odd (suc (prec f)) q k (low f)
    go false = refl

negative-odd : (d : ℕ) (s : Bool) (q k l : ℕ) → negative (odd d s q k l) ≡ s
unfolding odd
negative-odd d s zero k l = refl
negative-odd d s (suc q) k l = refl

negative-units : (f : Format) (s : Bool) (q k : ℕ) → negative (units f s q k) ≡ s
unfolding units
negative-units f s q k = go (ltb (q * 2 ^ k) (2 ^ (low f + suc (emax f))))
  where
    go : (b : Bool) → negative (cond b (odd (suc (prec f)) s q k (low f)) (inf s)) ≡ s
    go true = negative-odd (suc (prec f)) s q k (low f)
    go false = refl

pub negative-round : (f : Format) (s : Bool) (n d : ℕ) → negative (round f s n d) ≡ s
unfolding round
negative-round f s n d = negative-units f s _ _

pub neg-round : (f : Format) (n d : ℕ) → neg (round f false n d) ≡ round f true n d
unfolding round
neg-round f n d = neg-units f _ _

-- ---- c + t for a t that is at most b ≤ c in size: from c - b to c + b
pick-plus : (f : Format) (a b c : ℕ) → b ≤ a → sum f false a true b c ≡ round f false (a - b) c
unfolding sum
pick-plus f a b c h = go (ltb a b) (ltb→lt a b)
  where
    go : (t : Bool) → (T t → a < b) → cond t (round f true (b - a) c) (round f false (a - b) c) ≡ round f false (a - b) c
    go true k = let l = k tt in absurd (omega arith)
    go false k = refl

fewer : (p q r s : ℕ) → p ≡ r → s ≤ q → p - q ≤ r - s
fewer p q r s e h = omega arith

shrink : (X dx Y dy Z dz : ℕ) → Y * dz ≤ Z * dy → (X * dz - Z * dx) * (dx * dy) ≤ (X * dy - Y * dx) * (dx * dz)
shrink X dx Y dy Z dz h =
    let a : dx * dy * (X * dz) ≡ dx * dz * (X * dy) = simp (mul_assoc, mul_comm, mul_left_comm) in
    let b : dx * dz * (Y * dx) ≤ dx * dy * (Z * dx) = simp (mul_assoc, mul_comm, mul_left_comm) (simp (mul_assoc, mul_comm, mul_left_comm) at (mul-le-mul_right (dx * dx) h)) in
    le_trans (le_of_eq (mul_comm (X * dz - Z * dx) (dx * dy) ∙ mul-sub (dx * dy) (X * dz) (Z * dx)))
    (le_trans (fewer (dx * dy * (X * dz)) (dx * dy * (Z * dx)) (dx * dz * (X * dy)) (dx * dz * (Y * dx)) a b)
    (le_of_eq (sym (mul_comm (X * dy - Y * dx) (dx * dz) ∙ mul-sub (dx * dz) (X * dy) (Y * dx)))))

minus-le : (a b : ℕ) → a - b ≤ a
minus-le a b = omega arith

plus-le : (a b : ℕ) → a ≤ a + b
plus-le a b = omega arith

module _ (f : Format) (c b : ℕ) (g h : ℤ) (q : b * up h * down g ≤ c * up g * down h) where
  less-than : (n : ℕ) (d : ℤ) → n * up d * down h ≤ b * up h * down d → n * up d * down g ≤ c * up g * down d
  less-than n d p = through (n * up d) (b * up h) (c * up g) (down d) (down h) (down g) (down_pos h) p q

  low_end : sub f (fin false c g) (fin false b h) ≡ round f false (c * up g * down h - b * up h * down g) (down g * down h)
  unfolding sub add neg
  low_end = pick-plus f (c * up g * down h) (b * up h * down g) (down g * down h) q

  middle-false : (n : ℕ) (d : ℤ) → add f (fin false c g) (fin false n d) ≡ round f false (c * up g * down d + n * up d * down g) (down g * down d)
  unfolding add sum
  middle-false n d = refl

  middle-true : (n : ℕ) (d : ℤ) → n * up d * down h ≤ b * up h * down d → add f (fin false c g) (fin true n d) ≡ round f false (c * up g * down d - n * up d * down g) (down g * down d)
  unfolding add
  middle-true n d p = pick-plus f (c * up g * down d) (n * up d * down g) (down g * down d) (less-than n d p)

  swap : (d : ℤ) → c * up g * down h * (down g * down d) ≡ c * up g * down d * (down g * down h)
  swap d = simp (mul_assoc, mul_comm, mul_left_comm)

  pub add-near : (t : Float) → Within (fin false b h) t
      → T (le (sub f (fin false c g) (fin false b h)) (add f (fin false c g) t)) × T (le (add f (fin false c g) t) (add f (fin false c g) (fin false b h)))
  unfolding le
  add-near nan w = absurd w
  add-near (inf s) w = absurd w
  add-near (fin false n d) w = (
    rw (low_end, middle-false n d)
        (round_mono f (c * up g * down h - b * up h * down g) (down g * down h) (c * up g * down d + n * up d * down g) (down g * down d) (mul-pos (down_pos g) (down_pos h)) (mul-pos (down_pos g) (down_pos d))
        (le_trans (mul-le-mul_right (down g * down d) (minus-le (c * up g * down h) (b * up h * down g))) (le_trans (le_of_eq (swap d)) (mul-le-mul_right (down g * down h) (plus-le (c * up g * down d) (n * up d * down g)))))),
    rw (middle-false n d, middle-false b h)
        (round_mono f (c * up g * down d + n * up d * down g) (down g * down d) (c * up g * down h + b * up h * down g) (down g * down h) (mul-pos (down_pos g) (down_pos d)) (mul-pos (down_pos g) (down_pos h))
        (sum-cross (c * up g) (down g) (n * up d) (down d) (c * up g) (down g) (b * up h) (down h) (le_refl (c * up g * down g)) (cross n d b h w))),
  )
  add-near (fin true n d) w = (
    rw (low_end, middle-true n d (cross n d b h w))
        (round_mono f (c * up g * down h - b * up h * down g) (down g * down h) (c * up g * down d - n * up d * down g) (down g * down d) (mul-pos (down_pos g) (down_pos h)) (mul-pos (down_pos g) (down_pos d))
        (shrink (c * up g) (down g) (n * up d) (down d) (b * up h) (down h) (cross n d b h w))),
    rw (middle-true n d (cross n d b h w), middle-false b h)
        (round_mono f (c * up g * down d - n * up d * down g) (down g * down d) (c * up g * down h + b * up h * down g) (down g * down h) (mul-pos (down_pos g) (down_pos d)) (mul-pos (down_pos g) (down_pos h))
        (le_trans (mul-le-mul_right (down g * down h) (minus-le (c * up g * down d) (n * up d * down g))) (le_trans (le_of_eq (sym (swap d))) (mul-le-mul_right (down g * down d) (plus-le (c * up g * down h) (b * up h * down g)))))),
  )

pub near-in : (f : Format) (c b lo hi t : Float) → T (bound c && bound b && le b c && le lo (sub f c b) && le (add f c b) hi) → Within b t → T (le lo (add f c t)) × T (le (add f c t) hi)
near-in f (fin false c g) (fin false b h) lo hi t k w =
    let C = fin false c g in
    let B = fin false b h in
    let k1 = and_l (le B C && le lo (sub f C B)) (le (add f C B) hi) k in
    let r = add-near f c b g h (cross b h c g (and_l (le B C) (le lo (sub f C B)) k1)) t w in
    (order.le_trans lo (sub f C B) (add f C t) (and_r (le B C) (le lo (sub f C B)) k1) r.0, order.le_trans (add f C t) (add f C B) hi r.1 (and_r (le B C && le lo (sub f C B)) (le (add f C B) hi) k))
near-in f nan b lo hi t k w = elim k [ ]
near-in f (inf _) b lo hi t k w = elim k [ ]
near-in f (fin false c g) nan lo hi t k w = elim k [ ]
near-in f (fin false c g) (inf _) lo hi t k w = elim k [ ]
near-in f (fin false c g) (fin true b h) lo hi t k w = elim k [ ]
near-in f (fin true c g) b lo hi t k w = elim k [ ]

pub div-in : (f : Format) (b c d x y : Float) → T (bound b && bound c && not (eqb (mag c) 0) && le (div f b c) d) → T (finite y && le c (abs y)) → Within b x → Within d (div f x y)
div-in f (fin false b g) (fin false c h) d x y t q p =
    widen (div f (fin false b g) (fin false c h)) d (div f x y) (and_r (not (eqb c 0)) (le (div f (fin false b g) (fin false c h)) d) t)
    (div-within f b c g h x y (not-zero c (and_l (not (eqb c 0)) (le (div f (fin false b g) (fin false c h)) d) t)) (and_l (finite y) (le (fin false c h) (abs y)) q) p (and_r (finite y) (le (fin false c h) (abs y)) q))
  where
    not-zero : (n : ℕ) → T (not (eqb n 0)) → 0 < n
    not-zero zero t = absurd t
    not-zero (suc n) t = omega arith
div-in f nan c d x y t q p = elim t [ ]
div-in f (inf _) c d x y t q p = elim t [ ]
div-in f (fin false b g) nan d x y t q p = elim t [ ]
div-in f (fin false b g) (inf _) d x y t q p = elim t [ ]
div-in f (fin false b g) (fin true c h) d x y t q p = elim t [ ]
div-in f (fin true b g) c d x y t q p = elim t [ ]

pub within-finite : (b x : Float) → T (finite b) → Within b x → T (finite x)
unfolding le
within-finite b nan F w = absurd w
within-finite nan (inf s) F w = absurd F
within-finite (inf t) (inf s) F w = absurd F
within-finite (fin t n d) (inf s) F w = absurd w
within-finite b (fin s m e) F w = tt
