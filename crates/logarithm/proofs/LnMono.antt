-- ln grows with x, from 2 ^ -53 to 2 ^ 53. For one e it grows with its term in m. From one e to the next a test of each e, computed, finds that it is no less at the least term than before at the largest. Assumes nothing.
use Rattle.refusal.specs.declared.Refusal.TheVariants.{OutOfDomain}
use Rattle.std.specs.Prelude.{Ok, Err}
use mathlib.Core.Path.{◌≡◌, refl, sym, ap, ◌∙◌, subst}
use mathlib.Core.Logic.{◌⊎◌, inl, inr}
use Prim.Native.Nat.{ℕ, zero, suc, ◌+◌, ◌-◌, ◌*◌, ◌^◌, ◌≤◌, ◌<◌}
use native.Mathlib.Nat.{le_trans, le_of_eq, lt_of_not-le, lt_of_le_of_lt, not-le_of_lt, not-suc-le-zero, le_of_suc-le-suc, eq-or-lt_of_le, mul-one, mul_assoc, mul_right_comm, mul-pos, mul-le-mul_right, le_of_mul-le-mul_right, eq_of_mul-eq-mul_right}
use native.Mathlib.Omega.{arith}
use mathlib.Core.Bool.{Bool, true, false, ◌&&◌, cond}
use lib.Dec.{T, eqb, eqb→eq, lit<, lit≤}
use lib.Pow.{pow-add, pow_pos, pow_mono, shl_lt}
use lib.IntN.{pos, negsuc}
use lib.Ieee.{Float, nan, inf, fin, binary64, up, down, round, add, mul, div, neg, lt, le, fits, minus, is_nan, of_int, of_bits, to_bits}
use lib.Ieee.Bits.{of_bits-to_bits}
use lib.Ieee.Exact.{HasValue}
use lib.Ieee.Fits.{add-fits, of_int-fits}
use lib.Ieee.Order.{le_of_values}
use lib.Ieee.Positive.{positive, mul_at, positive_of_value, values_of_le}
use lib.Ieee.Scale.{finite}
use Rattle.refusal.specs.Numbers.{number_of}
use Rattle.arith.specs.Outcome.{pick}
use Rattle.arith.specs.Bounds.{real, Between}
use Rattle.arith.specs.Ln2.{H, L}
use Rattle.logarithm.specs.Ln.{ln_of, normal, field, digits, mantissa_of, exponent_of, series, series_of, halved_of, whole}
use Rattle.arith.proofs.Tests.{taken, untaken}
use Rattle.arith.proofs.Order as order
use Rattle.arith.proofs.Order.{LeS}
use Rattle.arith.proofs.Mono.{add_left, add_right}
use Rattle.logarithm.proofs.LnSize.{s-of}
use Rattle.logarithm.proofs.LnSplit.{split, field_in}
use Rattle.arith.specs.Lists.{every}
use Rattle.arith.proofs.Lists.{every-each}
use Rattle.logarithm.proofs.LnTerm.{exact, product, Off, edge, Range, term, term_is, term-mono}

-- ---- the ends of the term in m
abbrev low : Float
low = of_bits binary64 0xbfd62e42fefa39eb

abbrev high : Float
high = of_bits binary64 0x3fd62e42fefa39f1

ends : (term true (edge true) ≡ low) × (term false (edge false) ≡ high)
unfolding round mul div add neg of_int of_bits series
ends = (refl, refl)

term-between : (s : Bool) (a : ℕ) → Range s a → Between low high (term s a)
term-between s a r = (
  subst (λ (x : Float). T (le x (term s a))) ends.0 (term-mono true (edge true) s a (lit< tt, lit≤ tt) r (least s a r)),
  subst (λ (x : Float). T (le (term s a) x)) ends.1 (term-mono s a false (edge false) r (lit≤ tt) (largest s a r)),
)
  where
    least : (s : Bool) (a : ℕ) → Range s a → LeS true (edge true) s a
    least false a r = tt
    least true a r = r.1

    largest : (s : Bool) (a : ℕ) → Range s a → LeS s a false (edge false)
    largest false a r = r
    largest true a r = tt

-- ---- e × H + (x + e × L), for the e from -53 to 54 and an x between these ends
abbrev exponent : ℕ → Float
exponent i = of_int binary64 (minus (970 + i) 1023)

abbrev value : ℕ → Float → Float
value i x = add binary64 (mul binary64 (exponent i) H) (add binary64 x (mul binary64 (exponent i) L))

abbrev finites : ℕ → Bool
finites i =
    finite (mul binary64 (exponent i) H) && finite (mul binary64 (exponent i) L) && finite (add binary64 low (mul binary64 (exponent i) L)) && finite (add binary64 high (mul binary64 (exponent i) L))

all-finite : T (every 108 finites)
unfolding every add mul of_int of_bits
all-finite = tt

abbrev below_next : ℕ → Bool
below_next i = le (value i high) (value (suc i) low)

all-below : T (every 107 below_next)
unfolding every le add mul of_int of_bits
all-below = tt

four : (a b c d : Bool) → T (a && b && c && d) → T a × T b × T c × T d
four true true true true t = (tt, tt, tt, tt)
four false b c d t = elim t [ ]
four true false c d t = elim t [ ]
four true true false d t = elim t [ ]
four true true true false t = elim t [ ]

between-finite : (a x b : Float) → T (finite a) → T (finite b) → T (le a x) → T (le x b) → T (finite x)
unfolding le
between-finite (fin s m e) nan b F G h k = absurd h
between-finite (fin s m e) (inf true) b F G h k = absurd h
between-finite (fin s m e) (inf false) (fin t n d) F G h k = absurd k
between-finite (fin s m e) (fin u o g) b F G h k = tt
between-finite nan _ b F G h k = elim F [ ]
between-finite (inf _) _ b F G h k = elim F [ ]
between-finite (fin s m e) (inf false) nan F G h k = elim G [ ]
between-finite (fin s m e) (inf false) (inf _) F G h k = elim G [ ]

x-finite : (x : Float) → Between low high x → T (finite x)
x-finite x X = between-finite low x high (unfold of_bits in tt) (unfold of_bits in tt) X.0 X.1

-- for one e it grows with x
value-mono : (i : ℕ) (x y : Float) → i < 108 → Between low high x → Between low high y → T (le x y) → T (le (value i x) (value i y))
value-mono i x y l X Y h = add_right e_h (add binary64 x e_l) (add binary64 y e_l) F.0 (sum-finite x X) (sum-finite y Y) (add_left x y e_l (x-finite x X) (x-finite y Y) F.1 h)
  where
    e_h : Float
    e_h = mul binary64 (exponent i) H

    e_l : Float
    e_l = mul binary64 (exponent i) L

    F : T (finite e_h) × T (finite e_l) × T (finite (add binary64 low e_l)) × T (finite (add binary64 high e_l))
    F = four (finite e_h) (finite e_l) (finite (add binary64 low e_l)) (finite (add binary64 high e_l)) (every-each 108 finites all-finite i l)

    sum-finite : (x : Float) → Between low high x → T (finite (add binary64 x e_l))
    sum-finite x X =
        between-finite (add binary64 low e_l) (add binary64 x e_l) (add binary64 high e_l) F.2 F.3 (add_left low x e_l (unfold of_bits in tt) (x-finite x X) F.1 X.0) (add_left x high e_l (x-finite x X) (unfold of_bits in tt) F.1 X.1)

low-in : Between low high low
low-in = unfold le of_bits in (tt, tt)

high-in : Between low high high
high-in = unfold le of_bits in (tt, tt)

-- and for a larger e it is no less, whatever the two x
below-later : (i j : ℕ) → i < j → j < 108 → T (le (value i high) (value j low))
below-later i zero h l = absurd (not-suc-le-zero h)
below-later i (suc j) h l =
    let n = every-each 107 below_next all-below j (le_of_suc-le-suc l) in
    elim (eq-or-lt_of_le (le_of_suc-le-suc h)) [
      | inl e ↦ subst (λ (k : ℕ). T (le (value k high) (value (suc j) low))) (sym e) n
      | inr k ↦ order.le_trans (value i high) (value j high) (value (suc j) low) (order.le_trans (value i high) (value j low) (value j high) (below-later i j k (omega arith)) (value-mono j low high (omega arith) low-in high-in low-in.1)) n
    ]

value-order : (i j : ℕ) (x y : Float) → j < 108 → Between low high x → Between low high y → (i < j) ⊎ ((i ≡ j) × T (le x y)) → T (le (value i x) (value j y))
value-order i j x y l X Y (inl h) =
    order.le_trans (value i x) (value j low) (value j y) (order.le_trans (value i x) (value i high) (value j low) (value-mono i x high (omega arith) X high-in X.1) (below-later i j h l)) (value-mono j low y l low-in Y Y.0)
value-order i j x y l X Y (inr h) = subst (λ (k : ℕ). T (le (value k x) (value j y))) (sym h.0) (value-mono j x y l X Y h.1)

-- ---- x, of the field k + 1 and the digits t, has this e and this m in the end: m is halved, and below 1, where t is above the digits of the root of 2
abbrev Final : Bool → ℕ → ℕ → ℕ → ℕ → Type 0
Final false k t i a = (969 + i ≡ k) × (a ≡ t) × (t ≤ edge false)
Final true k t i a = (969 + i ≡ suc k) × (a + t ≡ 2 ^ 52) × (edge false < t)

record Reduced (k t : ℕ) (v : Float) : Type 0 where
  side : Bool
  i : ℕ
  a : ℕ
  final : Final side k t i a
  range : Range side a
  is : v ≡ value i (term side a)

-- the order of two x by their fields and digits
abbrev Before : ℕ → ℕ → ℕ → ℕ → Type 0
Before k t k' t' = (k < k') ⊎ ((k ≡ k') × (t ≤ t'))

clash : (t t' : ℕ) → t ≤ t' → t' ≤ edge false → edge false < t → ⊥
clash t t' h k l = omega arith

final-order : (s : Bool) (k t i a : ℕ) (s' : Bool) (k' t' i' a' : ℕ) → Final s k t i a → Final s' k' t' i' a' → Before k t k' t' → (i < i') ⊎ ((i ≡ i') × LeS s a s' a')
final-order false k t i a false k' t' i' a' p q (inl h) = inl (omega arith)
final-order false k t i a false k' t' i' a' p q (inr h) = inr (omega arith, omega arith)
final-order false k t i a true k' t' i' a' p q (inl h) = inl (omega arith)
final-order false k t i a true k' t' i' a' p q (inr h) = inl (omega arith)
final-order true k t i a false k' t' i' a' p q (inl h) = elim (eq-or-lt_of_le h) [ inl e ↦ inr (omega arith, tt) | inr l ↦ inl (omega arith) ]
final-order true k t i a false k' t' i' a' p q (inr h) = absurd (clash t t' h.1 q.2 p.2)
final-order true k t i a true k' t' i' a' p q (inl h) = inl (omega arith)
final-order true k t i a true k' t' i' a' p q (inr h) = inr (omega arith, omega arith)

final-high : (s : Bool) (k t i a : ℕ) → k ≤ 1075 → Final s k t i a → i < 108
final-high false k t i a h p = omega arith
final-high true k t i a h p = omega arith

reduced-mono : (k t k' t' : ℕ) (v w : Float) → k' ≤ 1075 → Reduced k t v → Reduced k' t' w → Before k t k' t' → T (le v w)
reduced-mono k t k' t' v w l p q h =
    let x = term p.side p.a in
    let y = term q.side q.a in
    rw (p.is, q.is)
    (value-order p.i q.i x y (final-high q.side k' t' q.i q.a l q.final) (term-between p.side p.a p.range) (term-between q.side q.a q.range)
    (elim (final-order p.side k t p.i p.a q.side k' t' q.i q.a p.final q.final h) [
      | inl g ↦ inl g
      | inr g ↦ inr (g.0, term-mono p.side p.a q.side q.a p.range q.range g.1)
    ]))

-- ---- e and e + 1 as floats
abbrev adds_one : ℕ → Bool
adds_one i = eqb (to_bits binary64 (add binary64 (exponent i) (whole 1))) (to_bits binary64 (exponent (suc i)))

all_one : T (every 107 adds_one)
unfolding every add of_int to_bits
all_one = tt

next-exponent : (i : ℕ) → i < 107 → add binary64 (exponent i) (whole 1) ≡ exponent (suc i)
next-exponent i h =
    let a = add binary64 (exponent i) (whole 1) in
    let b = exponent (suc i) in
    sym (of_bits-to_bits binary64 a (add-fits binary64 (exponent i) (whole 1))) ∙ ap (λ (n : ℕ). of_bits binary64 n) (eqb→eq (to_bits binary64 a) (to_bits binary64 b) (every-each 107 adds_one all_one i h)) ∙ of_bits-to_bits binary64 b (of_int-fits binary64 (minus (970 + suc i) 1023))

exponent-of : (x : Float) (i : ℕ) → field x ≡ 970 + i → of_int binary64 (exponent_of x) ≡ exponent i
unfolding exponent_of
exponent-of x i h = ap (λ (n : ℕ). of_int binary64 (minus n 1023)) h

series-value : (i : ℕ) (m e x : Float) → e ≡ exponent i → product (s-of m) ≡ x → series_of m e ≡ value i x
unfolding series_of
series-value i m e x p q = rw (p, q)

-- ---- m before it may be halved
abbrev root : Float
root = of_bits binary64 0x3ff6a09e667f3bcd

abbrev half : Float
half = of_bits binary64 0x3fe0000000000000

root-size : HasValue root false (2 ^ 52 + edge false) (2 ^ 52)
root-size = unfold of_bits in (refl, refl)

positive-real : (x : Float) → T (positive x) → real x
unfolding is_nan
positive-real (fin false m e) p = tt
positive-real nan p = elim p [ ]
positive-real (inf _) p = elim p [ ]
positive-real (fin true m e) p = elim p [ ]

module _ (m : Float) (t : ℕ) (few : t < 2 ^ 52) (size : HasValue m false (2 ^ 52 + t) (2 ^ 52)) where
  m-positive : T (positive m)
  m-positive = positive_of_value m (2 ^ 52 + t) (2 ^ 52) size (omega arith)

  up-to-root : T (le m root) → t ≤ edge false
  up-to-root h =
      let g : 2 ^ 52 + t ≤ 2 ^ 52 + edge false = le_of_mul-le-mul_right (values_of_le m root (2 ^ 52 + t) (2 ^ 52) (2 ^ 52 + edge false) (2 ^ 52) m-positive (unfold of_bits in tt) size root-size h) (pow_pos 52) in
      omega arith

  past-root : T (lt root m) → edge false < t
  past-root h =
      lt_of_not-le
      (λ (g : t ≤ edge false). order.lt_not_le root m h
      (le_of_values m root (2 ^ 52 + t) (2 ^ 52) (2 ^ 52 + edge false) (2 ^ 52) (pow_pos 52) (pow_pos 52) size root-size (mul-le-mul_right (2 ^ 52) (let u : 2 ^ 52 + t ≤ 2 ^ 52 + edge false = omega arith in u))))

  halved-size : HasValue (mul binary64 m half) false (2 ^ 52 + t) (2 ^ 53)
  halved-size =
      rw (mul_at binary64 m half (2 ^ 52 + t) (2 ^ 52) 1 2 m-positive (unfold of_bits in tt) (pow_pos 52) (pow_pos 1) size (unfold of_bits in (refl, refl)))
      (subst (λ (n : ℕ). HasValue (round binary64 false ((2 ^ 52 + t) * 1) (2 ^ 53)) false n (2 ^ 53)) (mul-one (2 ^ 52 + t)) (exact 1021 53 refl false (2 ^ 52 + t) 0 (omega arith) (omega arith)))

  reduce : (i : ℕ) (e : Float) → i < 107 → e ≡ exponent i → Reduced (969 + i) t (halved_of m e)
  unfolding halved_of
  reduce i e l is = go (lt root m) refl
    where
      go : (b : Bool) → lt root m ≡ b → Reduced (969 + i) t (cond b (series_of (mul binary64 m half) (add binary64 e (whole 1))) (series_of m e))
      go true q =
          let h = past-root (taken q) in
          let a = 2 ^ 52 - t in
          let r : Range true a = omega arith in
          let o : Off true (mul binary64 m half) a = subst (λ (n : ℕ). HasValue (mul binary64 m half) false n (2 ^ 53)) (omega arith) halved-size in
          record {
            side = true;
            i = suc i;
            a = a;
            final = (omega arith, omega arith, h);
            range = r;
            is = series-value (suc i) (mul binary64 m half) (add binary64 e (whole 1)) (term true a) (ap (λ (y : Float). add binary64 y (whole 1)) is ∙ next-exponent i l) (term_is true (mul binary64 m half) a r o);
          }
      go false q =
          let h = up-to-root (order.le_of_not_lt root m (unfold is_nan of_bits in tt) (positive-real m m-positive) (untaken q)) in
          record { side = false; i = i; a = t; final = (refl, refl, h); range = h; is = series-value i m e (term false t) is (term_is false m t h size) }

-- ---- x is (2 ^ 52 + t) * 2 ^ k of the format's smallest values
abbrev Scaled : Float → ℕ → ℕ → Type 0
Scaled x k t = HasValue x false ((2 ^ 52 + t) * 2 ^ k) (2 ^ 1074) × (t < 2 ^ 52)

scaled-order : (k t k' t' : ℕ) → t' < 2 ^ 52 → (2 ^ 52 + t) * 2 ^ k ≤ (2 ^ 52 + t') * 2 ^ k' → Before k t k' t'
scaled-order k t k' t' l h =
    elim (eq-or-lt_of_le (le_of_suc-le-suc (lt_of_not-le no))) [
      | inl e ↦ inr (e, let g : 2 ^ 52 + t ≤ 2 ^ 52 + t' = le_of_mul-le-mul_right (subst (λ (n : ℕ). (2 ^ 52 + t) * 2 ^ n ≤ (2 ^ 52 + t') * 2 ^ k') e h) (pow_pos k') in omega arith)
      | inr g ↦ inl g
    ]
  where
    no : suc k' ≤ k → ⊥
    no g =
        not-le_of_lt (lt_of_le_of_lt h (shl_lt 53 k' (let u : 2 ^ 52 + t' < 2 ^ 53 = omega arith in u)))
        (le_trans (pow_mono (let u : 53 + k' ≤ 52 + k = omega arith in u)) (le_trans (le_of_eq (pow-add 2 52 k)) (mul-le-mul_right (2 ^ k) (let u : 2 ^ 52 ≤ 2 ^ 52 + t = omega arith in u))))

before : (x y : Float) (k t k' t' : ℕ) → Scaled x k t → Scaled y k' t' → T (le x y) → Before k t k' t'
before x y k t k' t' p q h =
    let a = (2 ^ 52 + t) * 2 ^ k in
    let b = (2 ^ 52 + t') * 2 ^ k' in
    scaled-order k t k' t' q.1 (le_of_mul-le-mul_right (values_of_le x y a (2 ^ 1074) b (2 ^ 1074) (above x k t p) (above y k' t' q) p.0 q.0 h) (pow_pos 1074))
  where
    above : (x : Float) (k t : ℕ) → Scaled x k t → T (positive x)
    above x k t p = positive_of_value x ((2 ^ 52 + t) * 2 ^ k) (2 ^ 1074) p.0 (mul-pos (let u : 0 < 2 ^ 52 + t = omega arith in u) (pow_pos k))

not_after : (k t k' t' : ℕ) → Before k t k' t' → k ≤ k'
not_after k t k' t' (inl h) = omega arith
not_after k t k' t' (inr h) = omega arith

rescale : (x : Float) (s : Bool) (a b u : ℕ) → 0 < u → HasValue x s (a * u) (b * u) → HasValue x s a b
rescale nan s a b u U v = v
rescale (inf t) s a b u U v = v
rescale (fin t m e) s a b u U v = (v.0, eq_of_mul-eq-mul_right u U (m * up e * b) (a * down e) (mul_assoc (m * up e) b u ∙ v.1 ∙ mul_right_comm a u (down e)))

-- ---- so ln grows
opened : (x v : Float) → ln_of x ≡ Ok v → T (normal x) × (v ≡ halved_of (mantissa_of x) (of_int binary64 (exponent_of x)))
unfolding ln_of
opened x v = go (normal x) (halved_of (mantissa_of x) (of_int binary64 (exponent_of x)))
  where
    go : (b : Bool) (y : Float) → pick b (Ok y) (Err OutOfDomain) ≡ Ok v → T b × (v ≡ y)
    go true y e = (tt, cc)
    go false y e = absurd (let z : 11 ≡ 0 = ap number_of e in omega arith)

abbrev first : Float
first = fin false 1 (negsuc 52)

abbrev last : Float
last = fin false 1 (pos 53)

known : (x v : Float) → T (fits binary64 x) → Between first last x → ln_of x ≡ Ok v → (k : ℕ) × (k ≤ 1075) × Scaled x k (digits x) × Reduced k (digits x) v
known x v f b e =
    let o = opened x v e in
    let r = field_in x o.0 in
    let k = field x - 1 in
    let t = digits x in
    let u = split x k f (omega arith) (omega arith) in
    let lo = not_after 969 0 k t (before first x 969 0 k t ((refl, refl), lit< tt) (u.0, u.2) b.0) in
    let hi = not_after k t 1075 0 (before x last k t 1075 0 (u.0, u.2) ((refl, refl), lit< tt) b.1) in
    let i = k - 969 in
    let m = rescale (mantissa_of x) false (2 ^ 52 + t) (2 ^ 52) (2 ^ 1022) (pow_pos 1022) u.1 in (
      k,
      hi,
      (u.0, u.2),
      rw o.1 (subst (λ (n : ℕ). Reduced n t (halved_of (mantissa_of x) (of_int binary64 (exponent_of x)))) (omega arith) (reduce (mantissa_of x) t u.2 m i (of_int binary64 (exponent_of x)) (omega arith) (exponent-of x i (omega arith)))),
    )

pub ln-mono : (x y : Float) → T (fits binary64 x) → T (fits binary64 y)
    → Between (fin false 1 (negsuc 52)) (fin false 1 (pos 53)) x → Between (fin false 1 (negsuc 52)) (fin false 1 (pos 53)) y → T (le x y)
    → (v w : Float) → ln_of x ≡ Ok v → ln_of y ≡ Ok w → T (le v w)
ln-mono x y f g X Y h v w p q =
    let a = known x v f X p in
    let b = known y w g Y q in
    reduced-mono a.0 (digits x) b.0 (digits y) v w b.1 a.3 b.3 (before x y a.0 (digits x) b.0 (digits y) a.2 b.2 h)
