-- Among the values that are no NaN `le` is a total preorder, and `lt` is its strict part. -0 and +0 are each `le` the other, and equal to no other value. Assumes nothing.
use Rattle.std.proofs.Common.{◌≡◌, ℕ, zero, suc, ◌+◌, ◌*◌, ◌<◌, ◌≤◌, Bool, true, false, not, ◌&&◌, ◌||◌, T, eqb, ltb, ◌⊎◌, sym, refl, subst, inl, inr, lt_irrefl, eq-zero-or-pos, mul-pos, arith, eqb→eq, ltb→lt, lt→ltb, nltb→le}
use lib.Ieee.{Float, nan, inf, fin, up, down, below, level, lt, eq, le, neg, is_nan}
use lib.Ieee.Fits.{down_pos, eq→eqb, and_l, and_r, and_i}
use lib.Ieee.Positive.{through}
use Rattle.arith.specs.Bounds.{real}
use Rattle.arith.proofs.Tests.{either, or_split, or_left, or_right, iff}

-- ---- signed numbers, ±a ≤ ±b
abbrev pub LeS : Bool → ℕ → Bool → ℕ → Type 0
LeS false a false b = a ≤ b
LeS false a true b = a + b ≤ 0
LeS true a false b = Unit
LeS true a true b = b ≤ a

eq_or_lt : (a b : ℕ) → a ≤ b → T (ltb a b || (eqb a b && true))
eq_or_lt a b h = go (ltb a b) (nltb→le a b)
  where
    one : (x : Bool) → T x → T (x && true)
    one true t = tt
    one false t = t

    go : (t : Bool) → (T (not t) → b ≤ a) → T (t || (eqb a b && true))
    go true k = tt
    go false k = one (eqb a b) (let g : b ≤ a = k tt in let q : a ≡ b = omega arith in eq→eqb q)

pub le→ : (s : Bool) (a : ℕ) (t : Bool) (b : ℕ) → T (below s a t b || level s a t b) → LeS s a t b
le→ false a false b h = elim (or_split (ltb a b) (eqb a b && true) h) [ inl u ↦ let k = ltb→lt a b u in omega arith | inr u ↦ let k = eqb→eq a b (and_l (eqb a b) true u) in omega arith ]
le→ false a true b h = let k = eqb→eq a b (and_l (eqb a b) (eqb a 0) h) in let j = eqb→eq a 0 (and_r (eqb a b) (eqb a 0) h) in omega arith
le→ true a false b h = tt
le→ true a true b h = elim (or_split (ltb b a) (eqb a b && true) h) [ inl u ↦ let k = ltb→lt b a u in omega arith | inr u ↦ let k = eqb→eq a b (and_l (eqb a b) true u) in omega arith ]

pub →le : (s : Bool) (a : ℕ) (t : Bool) (b : ℕ) → LeS s a t b → T (below s a t b || level s a t b)
→le false a false b h = eq_or_lt a b h
→le false a true b h =
    let p : a ≡ 0 = omega arith in
    let q : b ≡ 0 = omega arith in
    subst (λ (x : ℕ). T (eqb x b && eqb x 0)) (sym p) (subst (λ (y : ℕ). T (eqb 0 y && eqb 0 0)) (sym q) tt)
→le true a false b h = go (eq-zero-or-pos (a + b))
  where
    go : (a + b ≡ 0) ⊎ (0 < a + b) → T (ltb 0 (a + b) || (eqb a b && eqb a 0))
    go (inl z) = or_right (ltb 0 (a + b)) (eqb a b && eqb a 0) (and_i (eqb a b) (eqb a 0) (eq→eqb {a = a} {b = b} (omega arith)) (eq→eqb {a = a} {b = 0} (omega arith)))
    go (inr p) = or_left (ltb 0 (a + b)) (eqb a b && eqb a 0) (lt→ltb 0 (a + b) p)
→le true a true b h = subst (λ (x : Bool). T (ltb b a || (x && true))) (eqb_comm b a) (eq_or_lt b a h)
  where
    eqb_comm : (m n : ℕ) → eqb m n ≡ eqb n m
    eqb_comm m n = iff (eqb m n) (eqb n m) (λ t. eq→eqb (sym (eqb→eq m n t))) (λ t. eq→eqb (sym (eqb→eq n m t)))

not-lt→ : (s : Bool) (a : ℕ) (t : Bool) (b : ℕ) → T (not (below s a t b)) → LeS t b s a
not-lt→ false a false b h = nltb→le a b h
not-lt→ false a true b h = tt
not-lt→ true a false b h = let k = nltb→le 0 (a + b) h in omega arith
not-lt→ true a true b h = nltb→le b a h

lt-clash : (s : Bool) (a : ℕ) (t : Bool) (b : ℕ) → T (below s a t b) → LeS t b s a → ⊥
lt-clash false a false b h k = let g = ltb→lt a b h in omega arith
lt-clash false a true b h k = h
lt-clash true a false b h k = let g = ltb→lt 0 (a + b) h in omega arith
lt-clash true a true b h k = let g = ltb→lt b a h in omega arith

-- ---- ±x / p ≤ ±y / q ≤ ±z / r
zero_of : (x q : ℕ) → 0 < q → x * q ≡ 0 → x ≡ 0
zero_of zero q Q h = refl
zero_of (suc x) q Q h = absurd (lt_irrefl 0 (subst (λ (n : ℕ). 0 < n) h (mul-pos (omega arith) Q)))

nil : (x r : ℕ) → x ≡ 0 → x * r ≡ 0
nil x r h = subst (λ (n : ℕ). n * r ≡ 0) (sym h) (omega arith)

trans : (s t u : Bool) (x y z p q r : ℕ) → 0 < p → 0 < q → 0 < r → LeS s (x * q) t (y * p) → LeS t (y * r) u (z * q) → LeS s (x * r) u (z * p)
trans false false false x y z p q r P Q R h k = through x y z p q r Q h k
trans false false true x y z p q r P Q R h k =
    let a : y ≡ 0 = zero_of y r R (omega arith) in
    let b : z ≡ 0 = zero_of z q Q (omega arith) in
    let a' = nil y p a in
    let c : x ≡ 0 = zero_of x q Q (omega arith) in
    let d = nil x r c in
    let e = nil z p b in
    omega arith
trans false true false x y z p q r P Q R h k = let d = nil x r (zero_of x q Q (omega arith)) in omega arith
trans false true true x y z p q r P Q R h k =
    let a = nil y r (zero_of y p P (omega arith)) in
    let e = nil z p (zero_of z q Q (omega arith)) in
    let d = nil x r (zero_of x q Q (omega arith)) in
    omega arith
trans true false false x y z p q r P Q R h k = tt
trans true false true x y z p q r P Q R h k = let e = nil z p (zero_of z q Q (omega arith)) in omega arith
trans true true false x y z p q r P Q R h k = tt
trans true true true x y z p q r P Q R h k = through z y x r q p Q k h

-- ---- floats
pub le_of_not_lt : (x y : Float) → real x → real y → T (not (lt x y)) → T (le y x)
unfolding lt eq le is_nan
le_of_not_lt nan y p q h = absurd p
le_of_not_lt (inf s) nan p q h = absurd q
le_of_not_lt (fin s m e) nan p q h = absurd q
le_of_not_lt (inf true) (inf true) p q h = tt
le_of_not_lt (inf true) (inf false) p q h = absurd h
le_of_not_lt (inf false) (inf true) p q h = tt
le_of_not_lt (inf false) (inf false) p q h = tt
le_of_not_lt (inf true) (fin t n d) p q h = absurd h
le_of_not_lt (inf false) (fin t n d) p q h = tt
le_of_not_lt (fin s m e) (inf true) p q h = tt
le_of_not_lt (fin s m e) (inf false) p q h = absurd h
le_of_not_lt (fin s m e) (fin t n d) p q h = →le t (n * up d * down e) s (m * up e * down d) (not-lt→ s (m * up e * down d) t (n * up d * down e) h)

pub lt_not_le : (x y : Float) → T (lt x y) → T (le y x) → ⊥
unfolding lt eq le
lt_not_le nan y h k = h
lt_not_le (inf s) nan h k = h
lt_not_le (fin s m e) nan h k = h
lt_not_le (inf true) (inf true) h k = h
lt_not_le (inf true) (inf false) h k = k
lt_not_le (inf false) (inf t) h k = h
lt_not_le (inf true) (fin t n d) h k = k
lt_not_le (inf false) (fin t n d) h k = h
lt_not_le (fin s m e) (inf true) h k = h
lt_not_le (fin s m e) (inf false) h k = k
lt_not_le (fin s m e) (fin t n d) h k = lt-clash s (m * up e * down d) t (n * up d * down e) h (le→ t (n * up d * down e) s (m * up e * down d) k)

pub le_trans : (x y z : Float) → T (le x y) → T (le y z) → T (le x z)
unfolding lt eq le
le_trans nan y z h k = h
le_trans (inf s) nan z h k = absurd h
le_trans (fin s m e) nan z h k = absurd h
le_trans (inf true) (inf t) nan h k = absurd k
le_trans (inf true) (fin t n d) nan h k = absurd k
le_trans (fin s m e) (inf false) nan h k = absurd k
le_trans (fin s m e) (fin t n d) nan h k = absurd k
le_trans (inf true) (inf t) (inf true) h k = tt
le_trans (inf true) (inf t) (inf false) h k = tt
le_trans (inf true) (inf t) (fin u o g) h k = tt
le_trans (inf true) (fin t n d) (inf true) h k = tt
le_trans (inf true) (fin t n d) (inf false) h k = tt
le_trans (inf true) (fin t n d) (fin u o g) h k = tt
le_trans (inf false) (inf true) z h k = absurd h
le_trans (inf false) (inf false) z h k = k
le_trans (inf false) (fin t n d) z h k = absurd h
le_trans (fin s m e) (inf true) z h k = absurd h
le_trans (fin s m e) (inf false) (inf true) h k = absurd k
le_trans (fin s m e) (inf false) (inf false) h k = tt
le_trans (fin s m e) (inf false) (fin u o g) h k = absurd k
le_trans (fin s m e) (fin t n d) (inf true) h k = absurd k
le_trans (fin s m e) (fin t n d) (inf false) h k = tt
le_trans (fin s m e) (fin t n d) (fin u o g) h k =
    →le s (m * up e * down g) u (o * up g * down e)
    (trans s t u (m * up e) (n * up d) (o * up g) (down e) (down d) (down g) (down_pos e) (down_pos d) (down_pos g)
    (le→ s (m * up e * down d) t (n * up d * down e) h) (le→ t (n * up d * down g) u (o * up g * down d) k))

-- ---- what follows from these three
pub total : (x y : Float) → real x → real y → T (lt x y) ⊎ T (le y x)
total x y p q = elim (either (lt x y)) [ inl h ↦ inl h | inr h ↦ inr (le_of_not_lt x y p q h) ]

pub le_of_lt : (x y : Float) → T (lt x y) → T (le x y)
unfolding le
le_of_lt x y h = go (lt x y) h
  where
    go : (b : Bool) → T b → T (b || eq x y)
    go true t = tt
    go false t = absurd t

pub le-real : (x y : Float) → T (le x y) → real x × real y
unfolding lt eq le is_nan
le-real nan y h = absurd h
le-real (inf s) nan h = absurd h
le-real (inf s) (inf t) h = (tt, tt)
le-real (inf s) (fin t n d) h = (tt, tt)
le-real (fin s m e) nan h = absurd h
le-real (fin s m e) (inf t) h = (tt, tt)
le-real (fin s m e) (fin t n d) h = (tt, tt)

pub lt_of_le_of_lt : (x y z : Float) → T (le x y) → T (lt y z) → T (lt x z)
lt_of_le_of_lt x y z h k =
    elim (either (lt x z)) [
      | inl g ↦ g
      | inr g ↦ absurd (lt_not_le y z k (le_trans z x y (le_of_not_lt x z (le-real x y h).0 (le-real y z (le_of_lt y z k)).1 g) h))
    ]

pub lt-of-lt-of-le' : (x y z : Float) → T (lt x y) → T (le y z) → T (lt x z)
lt-of-lt-of-le' x y z h k =
    elim (either (lt x z)) [
      | inl g ↦ g
      | inr g ↦ absurd (lt_not_le x y h (le_trans y z x k (le_of_not_lt x z (le-real x y (le_of_lt x y h)).0 (le-real y z k).1 g)))
    ]

pub lt_trans : (x y z : Float) → T (lt x y) → T (lt y z) → T (lt x z)
lt_trans x y z h k = lt_of_le_of_lt x y z (le_of_lt x y h) k

pub lt-irreflexive : (x : Float) → T (lt x x) → ⊥
lt-irreflexive x h = lt_not_le x x h (le_of_lt x x h)

pub least : (x : Float) → real x → T (le (inf true) x)
unfolding lt eq le is_nan
least nan p = absurd p
least (inf true) p = tt
least (inf false) p = tt
least (fin s m e) p = tt

-- ---- the sign
flip : (s : Bool) (a : ℕ) (t : Bool) (b : ℕ) → LeS s a t b → LeS (not t) b (not s) a
flip false a false b h = h
flip false a true b h = omega arith
flip true a false b h = tt
flip true a true b h = h

pub neg-anti : (x y : Float) → T (le x y) → T (le (neg y) (neg x))
unfolding lt eq le neg
neg-anti nan y h = absurd h
neg-anti (inf s) nan h = absurd h
neg-anti (fin s m e) nan h = absurd h
neg-anti (inf true) (inf true) h = tt
neg-anti (inf true) (inf false) h = tt
neg-anti (inf false) (inf true) h = absurd h
neg-anti (inf false) (inf false) h = tt
neg-anti (inf true) (fin t n d) h = tt
neg-anti (inf false) (fin t n d) h = absurd h
neg-anti (fin s m e) (inf true) h = absurd h
neg-anti (fin s m e) (inf false) h = tt
neg-anti (fin s m e) (fin t n d) h =
    →le (not t) (n * up d * down e) (not s) (m * up e * down d) (flip s (m * up e * down d) t (n * up d * down e) (le→ s (m * up e * down d) t (n * up d * down e) h))

pub neg-neg : (x : Float) → neg (neg x) ≡ x
unfolding neg
neg-neg nan = refl
neg-neg (inf true) = refl
neg-neg (inf false) = refl
neg-neg (fin true m e) = refl
neg-neg (fin false m e) = refl

pub reflexive : (x : Float) → real x → T (le x x)
reflexive x p = elim (either (lt x x)) [ inl h ↦ le_of_lt x x h | inr h ↦ le_of_not_lt x x p p h ]
