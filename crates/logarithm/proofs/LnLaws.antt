-- Where ln is accepted and how large it is, about the definition itself: for an x from 2 ^ -n to 2 ^ n its e is from -n to n, and at either end m is on the side of 1 that keeps the answer within n × ln 2. Assumes nothing.
use Rattle.std.specs.Prelude.{Ok}
use mathlib.Core.Path.{◌≡◌, refl, sym, ap, ◌∙◌, subst}
use mathlib.Core.Logic.{inl, inr}
use Prim.Native.Nat.{ℕ, zero, suc, ◌+◌, ◌-◌, ◌*◌, ◌/◌, ◌%◌, ◌^◌, ◌≤◌, ◌<◌}
use native.Mathlib.Nat.{le_trans, le_of_eq, lt_of_le_of_lt, not-le_of_lt, lt_of_not-le, le_of_suc-le-suc, mul-le-mul_right, le_of_mul-le-mul_right, mul-one, one-mul}
use native.Mathlib.Omega.{arith}
use mathlib.Core.Bool.{Bool, true, false, not, cond}
use borrow.Author.Tests.{le-leb, lt-ltb}
use lib.Dec.{T, T_not, leb, eqb, leb→le, nleb→lt, le→leb, eqb→eq}
use lib.Ieee.Fits.{eq→eqb}
use lib.Signed.{le_z}
use lib.Pow.{pow-add, pow_pos, pow_mono, pow-lt, shl_lt}
use lib.IntN.{ℤ, pos, negsuc, neg_ℤ}
use lib.Ieee.{Float, nan, inf, fin, binary64, add, mul, neg, lt, le, fits, minus, is_nan, of_int, of_bits, to_bits}
use lib.Ieee.Bits as bits
use lib.Ieee.Bits.{of_bits-to_bits}
use lib.Ieee.Exact.{HasValue}
use lib.Ieee.Positive.{positive, between, positive-finite, values_of_le}
use lib.Ieee.Scale.{finite}
use Rattle.arith.specs.Bounds.{Within, Between}
use Rattle.arith.specs.Ln2.{H}
use Rattle.logarithm.specs.Ln.{ln_of, normal, field, digits, mantissa_of, exponent_of, series_of, halved_of, whole}
use Rattle.arith.proofs.Tests.{taken, untaken, either}
use Rattle.arith.proofs.Order as order
use Rattle.arith.proofs.Within.{within, upper, lower, within-finite}
use Rattle.arith.proofs.Mono.{add_left, mul_left, of_int-mono}
use Rattle.arith.proofs.Zero.{above_zero}
use Rattle.arith.proofs.Patterns.{value_of, digits_of, above, finite-bits}
use Rattle.logarithm.proofs.LnSplit.{split, from-one, below-two}
use Rattle.logarithm.proofs.LnSize.{Near, rest, most, tiny, rest-size, rest_up, rest-down, ln-up, ln-down}

abbrev power : ℤ → Float
power z = fin false 1 z

-- ---- the field of an x from 2 ^ -n to 2 ^ n
pow-cancel : (a b : ℕ) → 2 ^ a < 2 ^ b → a < b
pow-cancel a b h = lt_of_not-le (λ (g : b ≤ a). not-le_of_lt h (pow_mono g))

pow-cancel-le : (a b : ℕ) → 2 ^ a ≤ 2 ^ b → a ≤ b
pow-cancel-le a b h = le_of_suc-le-suc (lt_of_not-le (λ (g : suc b ≤ a). not-le_of_lt (pow-lt g) h))

-- the field is k + 1; at the top end there are no digits
pub record In (n : ℕ) (x : Float) (k : ℕ) : Type 0 where
  pub field_is : field x ≡ suc k
  pub low : 1022 ≤ k + n
  pub high : k ≤ n + 1022
  pub top : k ≡ n + 1022 → digits x ≡ 0

-- with t digits below the leading one, in units of the smallest value
high_end : (n t k : ℕ) → (2 ^ 52 + t) * 2 ^ k * 1 ≤ 2 ^ n * 2 ^ 1074 → k ≤ n + 1022
high_end n t k h =
    let a : 2 ^ (52 + k) ≤ 2 ^ (n + 1074) = le_trans (le_of_eq (pow-add 2 52 k)) (le_trans (mul-le-mul_right (2 ^ k) (let g : 2 ^ 52 ≤ 2 ^ 52 + t = omega arith in g)) (le_trans (le_of_eq (sym (mul-one ((2 ^ 52 + t) * 2 ^ k)))) (le_trans h (le_of_eq (sym (pow-add 2 n 1074)))))) in
    let b = pow-cancel-le (52 + k) (n + 1074) a in
    omega arith

no-digits : (n t k : ℕ) → (2 ^ 52 + t) * 2 ^ k * 1 ≤ 2 ^ n * 2 ^ 1074 → k ≡ n + 1022 → t ≡ 0
no-digits n t k h e =
    let a : (2 ^ 52 + t) * 2 ^ k ≤ 2 ^ 52 * 2 ^ k = le_trans (le_of_eq (sym (mul-one ((2 ^ 52 + t) * 2 ^ k)))) (le_trans h (le_of_eq (sym (pow-add 2 n 1074) ∙ ap (λ (j : ℕ). 2 ^ j) (omega arith) ∙ pow-add 2 52 k))) in
    let b : 2 ^ 52 + t ≤ 2 ^ 52 = le_of_mul-le-mul_right a (pow_pos k) in
    omega arith

low_end : (n t k : ℕ) → t < 2 ^ 52 → 1 * 2 ^ 1074 ≤ (2 ^ 52 + t) * 2 ^ k * 2 ^ n → 1022 ≤ k + n
low_end n t k l h =
    let a : (2 ^ 52 + t) * 2 ^ k < 2 ^ (53 + k) = shl_lt 53 k (omega arith) in
    let b : (2 ^ 52 + t) * 2 ^ k * 2 ^ n < 2 ^ (53 + k + n) = shl_lt (53 + k) n a in
    let c = pow-cancel 1074 (53 + k + n) (lt_of_le_of_lt (le_of_eq (sym (one-mul (2 ^ 1074)))) (lt_of_le_of_lt h b)) in
    omega arith

not-subnormal : (n t : ℕ) → n ≤ 53 → t < 2 ^ 52 → 1 * 2 ^ 1074 ≤ t * 2 ^ 0 * 2 ^ n → ⊥
not-subnormal n t N l h =
    let a : t * 2 ^ 0 < 2 ^ (52 + 0) = shl_lt 52 0 l in
    let b : t * 2 ^ 0 * 2 ^ n < 2 ^ (52 + 0 + n) = shl_lt (52 + 0) n a in
    let c = pow-cancel 1074 (52 + 0 + n) (lt_of_le_of_lt (le_of_eq (sym (one-mul (2 ^ 1074)))) (lt_of_le_of_lt h b)) in
    omega arith

at_field : (n : ℕ) (x : Float) (f : ℕ) → n ≤ 53 → field x ≡ f → digits x < 2 ^ 52 → digits_of f (digits x) * 2 ^ above f * 1 ≤ 2 ^ n * 2 ^ 1074 → 1 * 2 ^ 1074 ≤ digits_of f (digits x) * 2 ^ above f * 2 ^ n → (k : ℕ) × In n x k
at_field n x zero N e l h g = absurd (not-subnormal n (digits x) N l g)
at_field n x (suc k) N e l h g = (k, record { field_is = e; low = low_end n (digits x) k l g; high = high_end n (digits x) k h; top = no-digits n (digits x) k h })

x-value : (x : Float) → T (fits binary64 x) → T (positive x) → HasValue x false (digits_of (field x) (digits x) * 2 ^ above (field x)) (2 ^ 1074)
unfolding field digits
x-value nan f p = absurd p
x-value (inf s) f p = absurd p
x-value (fin true m e) f p = absurd p
x-value (fin false m e) f p =
    let b = to_bits binary64 (fin false m e) in
    subst (λ (y : Float). HasValue y false (digits_of (b / 4503599627370496) (b % 4503599627370496) * 2 ^ above (b / 4503599627370496)) (2 ^ 1074)) (of_bits-to_bits binary64 (fin false m e) f) (value_of b (finite-bits m e f))

up-value : (n : ℕ) → HasValue (power (pos n)) false (2 ^ n) 1
up-value n = (refl, ap (λ (a : ℕ). a * 1) (one-mul (2 ^ n)))

down-value : (n : ℕ) → HasValue (power (neg_ℤ (pos n))) false 1 (2 ^ n)
down-value zero = (refl, refl)
down-value (suc n) = (refl, refl)

positive-down : (n : ℕ) → T (positive (power (neg_ℤ (pos n))))
positive-down zero = tt
positive-down (suc n) = tt

digits-few : (x : Float) → digits x < 2 ^ 52
unfolding digits
digits-few x = omega arith

is_positive : (n : ℕ) (x : Float) → Between (power (neg_ℤ (pos n))) (power (pos n)) x → T (positive x)
is_positive n x b = between (power (neg_ℤ (pos n))) x (power (pos n)) (positive-down n) tt b.0 b.1

in-range : (n : ℕ) (x : Float) → n ≤ 53 → T (fits binary64 x) → Between (power (neg_ℤ (pos n))) (power (pos n)) x → (k : ℕ) × In n x k
in-range n x N f b =
    let p = is_positive n x b in
    let v = x-value x f p in
    let u = digits_of (field x) (digits x) * 2 ^ above (field x) in
    at_field n x (field x) N refl (digits-few x) (values_of_le x (power (pos n)) u (2 ^ 1074) (2 ^ n) 1 p tt v (up-value n) b.1) (values_of_le (power (neg_ℤ (pos n))) x 1 (2 ^ n) u (2 ^ 1074) (positive-down n) p (down-value n) v b.0)

-- ---- so it is normal, and m is from 1 to 2
accepted : (n : ℕ) (x : Float) (k : ℕ) → n ≤ 53 → T (positive x) → In n x k → ln_of x ≡ Ok (halved_of (mantissa_of x) (of_int binary64 (exponent_of x)))
unfolding ln_of
accepted n x k N p i = rw is_normal
  where
    is_normal : normal x ≡ true
    is_normal = unfold normal in rw (bits.is_true (lt (of_bits binary64 0) x) (above_zero x p), le-leb 1 (field x) (let e = i.field_is in omega arith), lt-ltb (field x) 2047 (let e = i.field_is in let h = i.high in omega arith))

module _ (n : ℕ) (x : Float) (k : ℕ) (N : n ≤ 53) (f : T (fits binary64 x)) (i : In n x k) where
  halves : HasValue x false ((2 ^ 52 + digits x) * 2 ^ k) (2 ^ 1074) × HasValue (mantissa_of x) false ((2 ^ 52 + digits x) * 2 ^ 1022) (2 ^ 1074) × (digits x < 2 ^ 52)
  halves = split x k f i.field_is (let h = i.high in omega arith)

  pub m-low : T (le (whole 1) (mantissa_of x))
  m-low = from-one (mantissa_of x) (digits x) halves.2 halves.1

  pub m-high : T (le (mantissa_of x) (whole 2))
  m-high = order.le_of_lt (mantissa_of x) (whole 2) (below-two (mantissa_of x) (digits x) halves.2 halves.1)

  pub m-finite : T (finite (mantissa_of x))
  m-finite = positive-finite (mantissa_of x) (between (whole 1) (mantissa_of x) (whole 2) (unfold of_int in tt) (unfold of_int in tt) m-low m-high)

  pub m-one : k ≡ n + 1022 → T (le (mantissa_of x) (whole 1))
  unfolding mantissa_of
  m-one e = subst (λ (d : ℕ). T (le (of_bits binary64 (0x3ff0000000000000 + d)) (whole 1))) (sym (i.top e)) (unfold le of_int of_bits in tt)

-- ---- e as a float
minus-le : (k j : ℕ) → k ≤ j + 1022 → T (le_z (minus (suc k) 1023) (pos j))
minus-le k j h = go (leb 1023 (suc k)) (leb→le 1023 (suc k))
  where
    go : (b : Bool) → (T b → 1023 ≤ suc k) → T (le_z (cond b (pos (suc k - 1023)) (negsuc (1023 - suc (suc k)))) (pos j))
    go true p = le→leb (suc k - 1023) j (omega arith)
    go false p = tt

minus-ge : (k j : ℕ) → 1022 ≤ k + j → T (le_z (neg_ℤ (pos j)) (minus (suc k) 1023))
minus-ge k j h = go j h (leb 1023 (suc k)) (leb→le 1023 (suc k)) (nleb→lt 1023 (suc k))
  where
    go : (j : ℕ) → 1022 ≤ k + j → (b : Bool) → (T b → 1023 ≤ suc k) → (T (not b) → suc k < 1023) → T (le_z (neg_ℤ (pos j)) (cond b (pos (suc k - 1023)) (negsuc (1023 - suc (suc k)))))
    go zero h true p q = le→leb 0 (suc k - 1023) (omega arith)
    go zero h false p q = absurd (no (q tt))
      where
        no : suc k < 1023 → ⊥
        no g = omega arith
    go (suc j) h true p q = tt
    go (suc j) h false p q = le→leb (1023 - suc (suc k)) j (let g = q tt in omega arith)

-- ---- what is computed of the ends: the exponents from -(p + 1) to p + 1, also with 1 added, times H, with what the rest adds
abbrev above-p : ℕ → Float
above-p p = add binary64 (of_int binary64 (pos p)) (whole 1)

abbrev below-p : ℕ → Float
below-p p = add binary64 (of_int binary64 (negsuc p)) (whole 1)

-- c is an end from -53 to 53, and c × H is finite
abbrev End : Float → Type 0
End c = T (le c (whole 53)) × T (le (neg (whole 53)) c) × T (finite c) × T (finite (mul binary64 c H))

abbrev Up : Float → Float → Float → Type 0
Up d c b = T (le (add binary64 (mul binary64 c H) b) d)

abbrev Down : Float → Float → Float → Type 0
Down d c b = T (le (neg d) (add binary64 (mul binary64 c H) b))

pub record Ends (p : ℕ) (d : Float) : Type 0 where
  pub few : T (leb (suc p) 53)
  pub top : End (of_int binary64 (pos (suc p))) × Up d (of_int binary64 (pos (suc p))) tiny
  pub under : End (of_int binary64 (pos p)) × Up d (of_int binary64 (pos p)) most
  pub over : End (above-p p) × Up d (above-p p) tiny
  pub bottom : End (of_int binary64 (negsuc p)) × Down d (of_int binary64 (negsuc p)) (neg tiny)
  pub lifted : End (below-p p) × Down d (below-p p) (neg most)

abbrev m-of : Float → Float
m-of x = mantissa_of x

abbrev e-of : Float → Float
e-of x = of_int binary64 (exponent_of x)

module _ (p : ℕ) (d x : Float) (k : ℕ) (t : Ends p d) (f : T (fits binary64 x)) (i : In (suc p) x k) where
  N : suc p ≤ 53
  N = leb→le (suc p) 53 t.few

  e-top : T (le (e-of x) (of_int binary64 (pos (suc p))))
  unfolding exponent_of
  e-top = of_int-mono (exponent_of x) (pos (suc p)) (rw i.field_is (minus-le k (suc p) i.high))

  e-bottom : T (le (of_int binary64 (negsuc p)) (e-of x))
  unfolding exponent_of
  e-bottom = of_int-mono (negsuc p) (exponent_of x) (rw i.field_is (minus-ge k (suc p) i.low))

  e-under : (k ≡ suc p + 1022 → ⊥) → T (le (e-of x) (of_int binary64 (pos p)))
  unfolding exponent_of
  e-under h = of_int-mono (exponent_of x) (pos p) (rw i.field_is (minus-le k p (let g = i.high in below g h)))
    where
      below : k ≤ suc p + 1022 → (k ≡ suc p + 1022 → ⊥) → k ≤ p + 1022
      below g h = omega arith

  e-size : Within (whole 53) (e-of x)
  e-size =
      within (whole 53) (e-of x) (order.le_trans (e-of x) (of_int binary64 (pos (suc p))) (whole 53) e-top t.top.0.0)
      (order.le_trans (neg (whole 53)) (of_int binary64 (negsuc p)) (e-of x) t.bottom.0.1 e-bottom)

  e-finite : T (finite (e-of x))
  e-finite = within-finite (whole 53) (e-of x) (unfold of_int in tt) e-size

  -- m up to √2
  near : T (le (m-of x) (fin false 1449 (negsuc 9))) → Near (m-of x) (e-of x)
  near h = record {
    finite-m = m-finite (suc p) x k N f i;
    low = order.le_trans (fin false 181 (negsuc 7)) (whole 1) (m-of x) (unfold le of_int in tt) (m-low (suc p) x k N f i);
    high = h;
    small-e = e-size;
  }

  unhalved : T (le (m-of x) (fin false 1449 (negsuc 9))) → Within d (series_of (m-of x) (e-of x))
  unhalved h =
      let n = near h in
      let c = t.bottom.0 in
      within d (series_of (m-of x) (e-of x))
      (elim (either (eqb k (suc p + 1022))) [
        | inl q ↦
            let u = t.top.0 in
            ln-up (m-of x) (e-of x) n (of_int binary64 (pos (suc p))) tiny d u.2 u.3 tt t.top.1 e-top
            (rest_up (m-of x) (e-of x) n (m-one (suc p) x k N f i (eqb→eq k (suc p + 1022) q)))
        | inr q ↦
            let u = t.under.0 in
            ln-up (m-of x) (e-of x) n (of_int binary64 (pos p)) most d u.2 u.3 tt t.under.1 (e-under (λ z. T_not (eqb k (suc p + 1022)) q (eq→eqb z)))
            (upper most (rest (m-of x) (e-of x)) (rest-size (m-of x) (e-of x) n))
      ])
      (ln-down (m-of x) (e-of x) n (of_int binary64 (negsuc p)) (neg tiny) (neg d) c.2 c.3 (unfold neg in tt) t.bottom.1 e-bottom
      (rest-down (m-of x) (e-of x) n (m-low (suc p) x k N f i)))

  -- m above √2, halved
  m' : Float
  m' = mul binary64 (m-of x) (of_bits binary64 0x3fe0000000000000)

  e' : Float
  e' = add binary64 (e-of x) (whole 1)

  module _ (h : T (lt (of_bits binary64 0x3ff6a09e667f3bcd) (m-of x))) where
    not_top : k ≡ suc p + 1022 → ⊥
    not_top q =
        order.lt_not_le (of_bits binary64 0x3ff6a09e667f3bcd) (m-of x) h
        (order.le_trans (m-of x) (whole 1) (of_bits binary64 0x3ff6a09e667f3bcd) (m-one (suc p) x k N f i q) (unfold le of_int of_bits in tt))

    m'-high : T (le m' (whole 1))
    unfolding m'
    m'-high =
        order.le_trans m' (mul binary64 (whole 2) (of_bits binary64 0x3fe0000000000000)) (whole 1)
        (mul_left (m-of x) (whole 2) (of_bits binary64 0x3fe0000000000000) (m-finite (suc p) x k N f i) (unfold of_int in tt) (unfold of_bits in tt) (m-high (suc p) x k N f i)) (unfold le mul of_int of_bits in tt)

    m'-low : T (le (fin false 181 (negsuc 7)) m')
    unfolding m'
    m'-low =
        order.le_trans (fin false 181 (negsuc 7)) (mul binary64 (of_bits binary64 0x3ff6a09e667f3bcd) (of_bits binary64 0x3fe0000000000000)) m' (unfold le mul of_bits in tt)
        (mul_left (of_bits binary64 0x3ff6a09e667f3bcd) (m-of x) (of_bits binary64 0x3fe0000000000000) (unfold of_bits in tt) (m-finite (suc p) x k N f i) (unfold of_bits in tt)
        (order.le_of_lt (of_bits binary64 0x3ff6a09e667f3bcd) (m-of x) h))

    e'-over : T (le e' (above-p p))
    unfolding e'
    e'-over = add_left (e-of x) (of_int binary64 (pos p)) (whole 1) e-finite t.under.0.2 (unfold of_int in tt) (e-under not_top)

    e'-lifted : T (le (below-p p) e')
    unfolding e'
    e'-lifted = add_left (of_int binary64 (negsuc p)) (e-of x) (whole 1) t.bottom.0.2 e-finite (unfold of_int in tt) e-bottom

    near' : Near m' e'
    near' = record {
      finite-m = positive-finite m' (between (fin false 181 (negsuc 7)) m' (whole 1) tt (unfold of_int in tt) m'-low m'-high);
      low = m'-low;
      high = order.le_trans m' (whole 1) (fin false 1449 (negsuc 9)) m'-high (unfold le of_int in tt);
      small-e = within (whole 53) e' (order.le_trans e' (above-p p) (whole 53) e'-over t.over.0.0) (order.le_trans (neg (whole 53)) (below-p p) e' t.lifted.0.1 e'-lifted);
    }

    halved : Within d (series_of m' e')
    halved =
        let u = t.over.0 in
        let c = t.lifted.0 in
        within d (series_of m' e') (ln-up m' e' near' (above-p p) tiny d u.2 u.3 tt t.over.1 e'-over (rest_up m' e' near' m'-high))
        (ln-down m' e' near' (below-p p) (neg most) (neg d) c.2 c.3 (unfold neg in tt) t.lifted.1 e'-lifted (lower most (rest m' e') (rest-size m' e' near')))

  both : Within d (halved_of (m-of x) (e-of x))
  unfolding halved_of m' e'
  both = go (lt (of_bits binary64 0x3ff6a09e667f3bcd) (m-of x)) refl
    where
      go : (b : Bool) → lt (of_bits binary64 0x3ff6a09e667f3bcd) (m-of x) ≡ b → Within d (cond b (series_of (mul binary64 (m-of x) (of_bits binary64 0x3fe0000000000000)) (add binary64 (e-of x) (whole 1))) (series_of (m-of x) (e-of x)))
      go true q = halved (taken q)
      go false q =
          unhalved
          (order.le_trans (m-of x) (of_bits binary64 0x3ff6a09e667f3bcd) (fin false 1449 (negsuc 9))
          (order.le_of_not_lt (of_bits binary64 0x3ff6a09e667f3bcd) (m-of x) (unfold is_nan of_bits in tt) (order.le-real (whole 1) (m-of x) (m-low (suc p) x k N f i)).1 (untaken q)) (unfold le of_bits in tt))

-- ln x is accepted, and its value is at most d in size
abbrev pub Accepted : Float → Float → Type 0
Accepted d x = (v : Float) × (ln_of x ≡ Ok v) × Within d v

ln-within : (p : ℕ) (d : Float) → Ends p d → (x : Float) → T (fits binary64 x) → Between (power (negsuc p)) (power (pos (suc p))) x → Accepted d x
ln-within p d t x f b =
    let n = leb→le (suc p) 53 t.few in
    let r = in-range (suc p) x n f b in
    (halved_of (m-of x) (e-of x), accepted (suc p) x r.0 n (is_positive (suc p) x b) r.1, both p d x r.0 t f r.1)

ends-53 : Ends 52 (of_int binary64 (pos 37))
unfolding le add mul neg of_int of_bits
ends-53 = record { few = tt; top = ((tt, tt, tt, tt), tt); under = ((tt, tt, tt, tt), tt); over = ((tt, tt, tt, tt), tt); bottom = ((tt, tt, tt, tt), tt); lifted = ((tt, tt, tt, tt), tt) }

ends-52 : Ends 51 (of_bits binary64 0x4042066666666666)
unfolding le add mul neg of_int of_bits
ends-52 = record { few = tt; top = ((tt, tt, tt, tt), tt); under = ((tt, tt, tt, tt), tt); over = ((tt, tt, tt, tt), tt); bottom = ((tt, tt, tt, tt), tt); lifted = ((tt, tt, tt, tt), tt) }

-- a taken value on log scale: from 2 ^ -53 to 2 ^ 53, |ln x| ≤ 37
pub ln-taken : (x : Float) → T (fits binary64 x) → Between (power (negsuc 52)) (power (pos 53)) x → Accepted (of_int binary64 (pos 37)) x
ln-taken = ln-within 52 (of_int binary64 (pos 37)) ends-53

-- an end of a distribution on log scale: from 2 ^ -52 to 2 ^ 52, |ln x| at most 36.05, so within the 36.3 of a random draw
pub ln-end : (x : Float) → T (fits binary64 x) → Between (power (negsuc 51)) (power (pos 52)) x → Accepted (of_bits binary64 0x4042066666666666) x
ln-end = ln-within 51 (of_bits binary64 0x4042066666666666) ends-52
