-- A sum and a difference of binary64 values keep the order, signs and all: x ≤ x' gives x + y ≤ x' + y, both rounded. Assumes nothing.
use Rattle.std.proofs.Common.{◌≡◌, ℕ, zero, suc, ◌+◌, ◌-◌, ◌*◌, ◌<◌, ◌≤◌, Bool, true, false, cond, not, ◌&&◌, T, ltb, ℤ, pos, negsuc, sym, refl, ap, ◌∙◌, subst, suc-le-suc, zero-le, le_trans, le_of_eq, lt_irrefl, mul-le-mul_right, zero-lt-suc, mul_assoc, mul_comm, add-mul, add_comm, mul-pos, zero-mul, mul_left_comm, arith, ltb→lt, leb→le, nltb→le}
use native.Mathlib.Nat.{mul-mul-mul_comm}
use mathlib.Core.Bool.{beq}
use lib.Signed.{le_z}
use lib.Ieee.{Float, nan, inf, fin, Format, binary64, up, down, round, sum, add, sub, mul, neg, unlike, of_int, le}
use lib.Ieee.Fits.{down_pos}
use lib.Ieee.Order.{round_mono}
use lib.Ieee.Scale.{round_same, finite}
use lib.Ieee.Positive.{den, den_pos}
use Rattle.arith.proofs.Order as order
use Rattle.arith.proofs.Order.{LeS, le→, neg-anti}
use Rattle.arith.proofs.Within.{neg-round, bound}

-- ---- ±x as a difference of two numbers, one of which is 0
abbrev pub P : Bool → ℕ → ℕ
P true x = 0
P false x = x

abbrev pub N : Bool → ℕ → ℕ
N true x = x
N false x = 0

LeS→ : (s : Bool) (x : ℕ) (t : Bool) (y : ℕ) → LeS s x t y → P s x + N t y ≤ P t y + N s x
LeS→ false x false y h = omega arith
LeS→ false x true y h = omega arith
LeS→ true x false y h = zero-le
LeS→ true x true y h = omega arith

→LeS : (s : Bool) (x : ℕ) (t : Bool) (y : ℕ) → P s x + N t y ≤ P t y + N s x → LeS s x t y
→LeS false x false y h = omega arith
→LeS false x true y h = omega arith
→LeS true x false y h = tt
→LeS true x true y h = omega arith

P-mul : (s : Bool) (x k : ℕ) → P s (x * k) ≡ P s x * k
P-mul true x k = sym (zero-mul k)
P-mul false x k = refl

N-mul : (s : Bool) (x k : ℕ) → N s (x * k) ≡ N s x * k
N-mul true x k = refl
N-mul false x k = sym (zero-mul k)

-- ---- the signed sum, as `sum` has it
abbrev sgn : Bool → ℕ → Bool → ℕ → Bool
sgn s a t b = cond (beq s t) s (cond (ltb a b) t (s && ltb b a))

abbrev siz : Bool → ℕ → Bool → ℕ → ℕ
siz s a t b = cond (beq s t) (a + b) (cond (ltb a b) (b - a) (a - b))

sum_is : (f : Format) (s : Bool) (a : ℕ) (t : Bool) (b c : ℕ) → sum f s a t b c ≡ round f (sgn s a t b) (siz s a t b) c
unfolding sum
sum_is f s a t b c = go (beq s t) (ltb a b)
  where
    go : (x y : Bool) → cond x (round f s (a + b) c) (cond y (round f t (b - a) c) (round f (s && ltb b a) (a - b) c)) ≡ round f (cond x s (cond y t (s && ltb b a))) (cond x (a + b) (cond y (b - a) (a - b))) c
    go true y = refl
    go false true = refl
    go false false = refl

balance : (s : Bool) (a : ℕ) (t : Bool) (b : ℕ) → P (sgn s a t b) (siz s a t b) + (N s a + N t b) ≡ N (sgn s a t b) (siz s a t b) + (P s a + P t b)
balance true a true b = omega arith
balance false a false b = omega arith
balance true a false b = go (ltb a b) (ltb b a) (ltb→lt a b) (nltb→le a b) (nltb→le b a)
  where
    go : (x y : Bool) → (T x → a < b) → (T (not x) → b ≤ a) → (T (not y) → a ≤ b)
        → P (cond x false y) (cond x (b - a) (a - b)) + (a + 0) ≡ N (cond x false y) (cond x (b - a) (a - b)) + (0 + b)
    go true y p q r = let u = p tt in omega arith
    go false true p q r = let u = q tt in omega arith
    go false false p q r = let u = q tt in let v = r tt in omega arith
balance false a true b = go (ltb a b) (ltb→lt a b) (nltb→le a b)
  where
    go : (x : Bool) → (T x → a < b) → (T (not x) → b ≤ a)
        → P (cond x true false) (cond x (b - a) (a - b)) + (0 + b) ≡ N (cond x true false) (cond x (b - a) (a - b)) + (a + 0)
    go true p q = let u = p tt in omega arith
    go false p q = let u = q tt in omega arith

-- ---- rounding keeps the order of signed fractions
pub zero-round : (s : Bool) (a c : ℕ) → 0 < c → a ≡ 0 → round binary64 s a c ≡ fin s 0 (pos 0)
zero-round s a c C e = ap (λ (x : ℕ). round binary64 s x c) e ∙ round_same binary64 s 0 c 0 1 C (zero-lt-suc 0) (zero-mul 1 ∙ sym (zero-mul c)) ∙ at s
  where
    at : (s : Bool) → round binary64 s 0 1 ≡ fin s 0 (pos 0)
    at true = unfold round in refl
    at false = unfold round in refl

nil : (a d : ℕ) → 0 < d → a * d ≡ 0 → a ≡ 0
nil zero d D h = refl
nil (suc a) d D h = absurd (lt_irrefl 0 (subst (λ (x : ℕ). 0 < x) h (mul-pos (zero-lt-suc a) D)))

pub not-less : (b d : ℕ) → 0 < d → T (le (fin false 0 (pos 0)) (round binary64 false b d))
not-less b d D = subst (λ (z : Float). T (le z (round binary64 false b d))) (zero-round false 0 1 (zero-lt-suc 0) refl) (round_mono binary64 0 1 b d (zero-lt-suc 0) D (le_trans (le_of_eq (zero-mul d)) zero-le))

pub round-signed : (s : Bool) (a c : ℕ) (t : Bool) (b d : ℕ) → 0 < c → 0 < d → LeS s (a * d) t (b * c) → T (le (round binary64 s a c) (round binary64 t b d))
round-signed false a c false b d C D h = round_mono binary64 a c b d C D h
round-signed true a c true b d C D h =
    subst (λ (z : Float). T (le z (round binary64 true b d))) (neg-round binary64 a c)
    (subst (λ (z : Float). T (le (neg (round binary64 false a c)) z)) (neg-round binary64 b d) (neg-anti (round binary64 false b d) (round binary64 false a c) (round_mono binary64 b d a c D C h)))
round-signed true a c false b d C D h =
    order.le_trans (round binary64 true a c) (fin true 0 (pos 0)) (round binary64 false b d)
    (subst (λ (z : Float). T (le z (fin true 0 (pos 0)))) (neg-round binary64 a c) (unfold neg in neg-anti (fin false 0 (pos 0)) (round binary64 false a c) (not-less a c C)))
    (order.le_trans (fin true 0 (pos 0)) (fin false 0 (pos 0)) (round binary64 false b d) (unfold le in tt) (not-less b d D))
round-signed false a c true b d C D h =
    let x : a ≡ 0 = nil a d D (omega arith) in
    let y : b ≡ 0 = nil b c C (omega arith) in
    rw (zero-round false a c C x, zero-round true b d D y) (unfold le in tt)

-- ---- a finite value is exactly (num⁺ - num⁻) / den, where one of the two is 0
abbrev pub num⁺ : Float → ℕ
num⁺ nan = 0
num⁺ (inf s) = 0
num⁺ (fin s m e) = P s (m * up e)

abbrev pub num⁻ : Float → ℕ
num⁻ nan = 0
num⁻ (inf s) = 0
num⁻ (fin s m e) = N s (m * up e)

pub le-cross : (x y : Float) → T (finite x) → T (finite y) → T (le x y) → num⁺ x * den y + num⁻ y * den x ≤ num⁺ y * den x + num⁻ x * den y
unfolding le
le-cross (fin s m e) (fin t n d) F G h =
    let a = m * up e in
    let b = n * up d in
    rw (P-mul s a (down d), P-mul t b (down e), N-mul s a (down d), N-mul t b (down e)) at (LeS→ s (a * down d) t (b * down e) (le→ s (a * down d) t (b * down e) h))
le-cross nan y F G h = elim F [ ]
le-cross (inf _) y F G h = elim F [ ]
le-cross (fin s m e) nan F G h = elim G [ ]
le-cross (fin s m e) (inf _) F G h = elim G [ ]

-- ---- r is (u - v) / c, rounded
pub record Rounded (r : Float) (u v c : ℕ) : Type 0 where
  pub sign : Bool
  pub size : ℕ
  pub is : r ≡ round binary64 sign size c
  pub value : P sign size + v ≡ N sign size + u

pub rounded-mono : {r r' : Float} {u v c u' v' c' : ℕ} → Rounded r u v c → Rounded r' u' v' c' → 0 < c → 0 < c' → u * c' + v' * c ≤ u' * c + v * c' → T (le r r')
rounded-mono {r} {r'} {u} {v} {c} {u'} {v'} {c'} x y C C' h =
    let s = x.sign in
    let a = x.size in
    let t = y.sign in
    let b = y.size in
    let d = scale (P s a) v (N s a) u c' x.value in
    let e = scale (P t b) v' (N t b) u' c y.value in
    rw (x.is, y.is) (round-signed s a c t b c' C C' (→LeS s (a * c') t (b * c) (rw (P-mul s a c', P-mul t b c, N-mul s a c', N-mul t b c) (omega arith))))
  where
    scale : (p v n u k : ℕ) → p + v ≡ n + u → p * k + v * k ≡ n * k + u * k
    scale p v n u k e = sym (add-mul p v k) ∙ ap (λ (z : ℕ). z * k) e ∙ add-mul n u k

pub add-rounded : (x y : Float) → T (finite x) → T (finite y) → Rounded (add binary64 x y) (num⁺ x * den y + num⁺ y * den x) (num⁻ x * den y + num⁻ y * den x) (den x * den y)
unfolding add
add-rounded (fin s m e) (fin t n d) F G =
    let a = m * up e in
    let b = n * up d in
    record {
      sign = sgn s (a * down d) t (b * down e);
      size = siz s (a * down d) t (b * down e);
      is = sum_is binary64 s (a * down d) t (b * down e) (down e * down d);
      value = rw (P-mul s a (down d), P-mul t b (down e), N-mul s a (down d), N-mul t b (down e)) at (balance s (a * down d) t (b * down e));
    }
add-rounded nan y F G = elim F [ ]
add-rounded (inf _) y F G = elim F [ ]
add-rounded (fin s m e) nan F G = elim G [ ]
add-rounded (fin s m e) (inf _) F G = elim G [ ]

pub sub-rounded : (x y : Float) → T (finite x) → T (finite y) → Rounded (sub binary64 x y) (num⁺ x * den y + num⁻ y * den x) (num⁻ x * den y + num⁺ y * den x) (den x * den y)
unfolding sub neg
sub-rounded x (fin true n d) F G = add-rounded x (fin false n d) F tt
sub-rounded x (fin false n d) F G = add-rounded x (fin true n d) F tt
sub-rounded x nan F G = elim G [ ]
sub-rounded x (inf _) F G = elim G [ ]

-- ---- x ≤ x' gives x + y ≤ x' + y, for finite values; an infinite result is in order too
pub add_left : (x x' y : Float) → T (finite x) → T (finite x') → T (finite y) → T (le x x') → T (le (add binary64 x y) (add binary64 x' y))
add_left x x' y F F' G h =
    rounded-mono (add-rounded x y F G) (add-rounded x' y F' G) (mul-pos (den_pos x) (den_pos y)) (mul-pos (den_pos x') (den_pos y))
    (spread (num⁺ x) (num⁻ x) (den x) (num⁺ x') (num⁻ x') (den x') (num⁺ y) (num⁻ y) (den y) (le-cross x x' F F' h))
  where
    spread : (u v p u' v' p' w z q : ℕ) → u * p' + v' * p ≤ u' * p + v * p'
        → (u * q + w * p) * (p' * q) + (v' * q + z * p') * (p * q) ≤ (u' * q + w * p') * (p * q) + (v * q + z * p) * (p' * q)
    spread u v p u' v' p' w z q k =
        let m = simp (add-mul, mul_assoc, mul_comm, mul_left_comm) at (mul-le-mul_right (q * q) k) in
        simp (add-mul, mul_assoc, mul_comm, mul_left_comm) (omega arith)

-- lo ≤ x ≤ hi gives lo - y ≤ x - y ≤ hi - y
pub neg-finite : (y : Float) → T (finite y) → T (finite (neg y))
unfolding neg
neg-finite nan F = F
neg-finite (inf s) F = F
neg-finite (fin s m e) F = F

pub sub-left : (x x' y : Float) → T (finite x) → T (finite x') → T (finite y) → T (le x x') → T (le (sub binary64 x y) (sub binary64 x' y))
unfolding sub
sub-left x x' y F F' G h = add_left x x' (neg y) F F' (neg-finite y G) h

-- ---- a sum does not look at the order of its two terms
swapped : (f : Format) (s : Bool) (a : ℕ) (t : Bool) (b c : ℕ) → sum f s a t b c ≡ sum f t b s a c
unfolding sum
swapped f true a true b c = ap (λ (n : ℕ). round f true n c) (add_comm a b)
swapped f false a false b c = ap (λ (n : ℕ). round f false n c) (add_comm a b)
swapped f true a false b c = go (ltb a b) (ltb b a) (ltb→lt a b) (nltb→le a b) (ltb→lt b a) (nltb→le b a)
  where
    go : (x y : Bool) → (T x → a < b) → (T (not x) → b ≤ a) → (T y → b < a) → (T (not y) → a ≤ b)
        → cond x (round f false (b - a) c) (round f y (a - b) c) ≡ cond y (round f true (a - b) c) (round f false (b - a) c)
    go true true p p' q q' = let u = p tt in let v = q tt in absurd (omega arith)
    go true false p p' q q' = refl
    go false true p p' q q' = refl
    go false false p p' q q' = let u = p' tt in let v = q' tt in ap (λ (n : ℕ). round f false n c) (let e : a - b ≡ b - a = omega arith in e)
swapped f false a true b c = go (ltb a b) (ltb b a) (ltb→lt a b) (nltb→le a b) (ltb→lt b a) (nltb→le b a)
  where
    go : (x y : Bool) → (T x → a < b) → (T (not x) → b ≤ a) → (T y → b < a) → (T (not y) → a ≤ b)
        → cond x (round f true (b - a) c) (round f false (a - b) c) ≡ cond y (round f false (a - b) c) (round f x (b - a) c)
    go true true p p' q q' = let u = p tt in let v = q tt in absurd (omega arith)
    go true false p p' q q' = refl
    go false true p p' q q' = refl
    go false false p p' q q' = let u = p' tt in let v = q' tt in ap (λ (n : ℕ). round f false n c) (let e : a - b ≡ b - a = omega arith in e)

pub add-swap : (f : Format) (x y : Float) → T (finite x) → T (finite y) → add f x y ≡ add f y x
unfolding add
add-swap f nan y F G = absurd F
add-swap f (inf s) y F G = absurd F
add-swap f (fin s m e) nan F G = absurd G
add-swap f (fin s m e) (inf t) F G = absurd G
add-swap f (fin s m e) (fin t n d) F G =
    swapped f s (m * up e * down d) t (n * up d * down e) (down e * down d) ∙ ap (λ (c : ℕ). sum f t (n * up d * down e) s (m * up e * down d) c) (mul_comm (down e) (down d))

pub add_right : (x y y' : Float) → T (finite x) → T (finite y) → T (finite y') → T (le y y') → T (le (add binary64 x y) (add binary64 x y'))
add_right x y y' F G G' h = rw (add-swap binary64 x y F G, add-swap binary64 x y' F G') (add_left y y' x G G' F h)

-- ---- x ≤ x' gives x * c ≤ x' * c, for a c that is not below 0
scale-by : (k : ℕ) (s : Bool) (a : ℕ) (t : Bool) (b : ℕ) → LeS s a t b → LeS s (a * k) t (b * k)
scale-by k false a false b h = mul-le-mul_right k h
scale-by k false a true b h =
    let p : a ≡ 0 = omega arith in
    let q : b ≡ 0 = omega arith in
    rw (p, q) (let z = zero-mul k in omega arith)
scale-by k true a false b h = tt
scale-by k true a true b h = mul-le-mul_right k h

pub unlike-plus : (s : Bool) → unlike s false ≡ s
unlike-plus true = refl
unlike-plus false = refl

pub mul_left : (x x' c : Float) → T (finite x) → T (finite x') → T (bound c) → T (le x x') → T (le (mul binary64 x c) (mul binary64 x' c))
unfolding le mul
mul_left nan x' c F F' C h = absurd F
mul_left (inf s) x' c F F' C h = absurd F
mul_left (fin s m e) nan c F F' C h = absurd F'
mul_left (fin s m e) (inf s') c F F' C h = absurd F'
mul_left (fin s m e) (fin s' m' e') nan F F' C h = absurd C
mul_left (fin s m e) (fin s' m' e') (inf t) F F' C h = absurd C
mul_left (fin s m e) (fin s' m' e') (fin true n d) F F' C h = absurd C
mul_left (fin s m e) (fin s' m' e') (fin false n d) F F' C h =
    let a = m * up e in
    let a' = m' * up e' in
    let b = n * up d in
    let l : a * down e' * (b * down d) ≡ a * b * (down e' * down d) = mul-mul-mul_comm a (down e') b (down d) in
    let r : a' * down e * (b * down d) ≡ a' * b * (down e * down d) = mul-mul-mul_comm a' (down e) b (down d) in
    rw (unlike-plus s, unlike-plus s')
    (round-signed s (a * b) (down e * down d) s' (a' * b) (down e' * down d) (mul-pos (down_pos e) (down_pos d)) (mul-pos (down_pos e') (down_pos d))
    (subst (λ (x : ℕ). LeS s x s' (a' * b * (down e * down d))) l (subst (λ (x : ℕ). LeS s (a * down e' * (b * down d)) s' x) r (scale-by (b * down d) s (a * down e') s' (a' * down e) (le→ s (a * down e') s' (a' * down e) h)))))

-- ---- whole numbers as floats
pub of_int-mono : (a b : ℤ) → T (le_z a b) → T (le (of_int binary64 a) (of_int binary64 b))
unfolding of_int
of_int-mono (pos a) (pos b) h = round_mono binary64 a 1 b 1 (zero-lt-suc 0) (zero-lt-suc 0) (mul-le-mul_right 1 (leb→le a b h))
of_int-mono (pos a) (negsuc b) h = absurd h
of_int-mono (negsuc a) (pos b) h = round-signed true (suc a) 1 false b 1 (zero-lt-suc 0) (zero-lt-suc 0) tt
of_int-mono (negsuc a) (negsuc b) h = round-signed true (suc a) 1 true (suc b) 1 (zero-lt-suc 0) (zero-lt-suc 0) (mul-le-mul_right 1 (suc-le-suc (leb→le b a h)))
