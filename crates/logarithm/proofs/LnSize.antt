-- The two parts of ln, e × H and the rest, and their bounds, for an m from 724/1024 to 1449/1024, which has √½ and √2 between them, and an e of at most 53 in size. Assumes nothing.
use mathlib.Core.Path.{◌≡◌, refl, subst}
use Prim.Native.Nat.{ℕ, zero, suc, ◌+◌, ◌*◌}
use mathlib.Core.Bool.{Bool, true, false, ◌&&◌}
use lib.Dec.{T}
use lib.IntN.{pos, negsuc}
use lib.Ieee.{Float, fin, binary64, add, sub, mul, div, neg, unlike, lt, le, of_int, of_bits}
use lib.Ieee.Fits.{and_i, and_l, and_r}
use lib.Ieee.Scale.{finite}
use Rattle.arith.specs.Lists.{every}
use Rattle.arith.proofs.Order as order
use Rattle.arith.specs.Bounds.{abs, Within, Between, Sign}
use Rattle.arith.proofs.Within.{within, upper, lower, mul_in, div-in, add-in, near-in, le-abs, within-finite}
use Rattle.arith.proofs.Mono.{add_left, add_right, sub-left, mul_left}
use Rattle.arith.proofs.Sign.{mul-sign, div-sign}
use Rattle.arith.specs.Ln2.{H, L}
use Rattle.logarithm.specs.Ln.{series_of, series, whole}

abbrev K : ℕ → Float
K n = of_int binary64 (pos n)

abbrev lo : Float
lo = fin false 181 (negsuc 7)

abbrev hi : Float
hi = fin false 1449 (negsuc 9)

-- m - 1 and m + 1
less_one : (m : Float) → T (finite m) → T (le lo m) → T (le m hi) → Within (fin false 425 (negsuc 9)) (sub binary64 m (K 1))
unfolding sub add neg of_int le
less_one m F l h =
    let d = sub binary64 m (K 1) in
    within (fin false 425 (negsuc 9)) d
    (order.le_trans d (sub binary64 hi (K 1)) (fin false 425 (negsuc 9)) (sub-left m hi (K 1) F tt tt h) tt)
    (order.le_trans (neg (fin false 425 (negsuc 9))) (sub binary64 lo (K 1)) d tt (sub-left lo m (K 1) tt F tt l))

above-one : (m : Float) → T (finite m) → T (le lo m) → T (le (fin false 437 (negsuc 7)) (add binary64 m (K 1)))
unfolding add of_int le
above-one m F l = order.le_trans (fin false 437 (negsuc 7)) (add binary64 lo (K 1)) (add binary64 m (K 1)) tt (add_left lo m (K 1) tt F tt l)

more-one : (m : Float) → T (finite m) → T (le lo m) → Within hi m → T (finite (add binary64 m (K 1)) && le (fin false 437 (negsuc 7)) (abs (add binary64 m (K 1))))
unfolding add of_int le
more-one m F l w =
    let d = add binary64 m (K 1) in
    let b = add-in binary64 hi (K 1) (fin false 3 (pos 0)) m (K 1) tt w tt in
    let g = above-one m F l in
    and_i (finite d) (le (fin false 437 (negsuc 7)) (abs d)) (within-finite (fin false 3 (pos 0)) d tt b)
    (order.le_trans (fin false 437 (negsuc 7)) d (abs d) g (le-abs d (order.le-real (fin false 437 (negsuc 7)) d g).1).0)

abbrev pub coefficient : ℕ → Float
coefficient n = div binary64 (K 1) (K (2 * n + 1))

abbrev z-max : Float
z-max = fin false 1 (negsuc 3)

step : (c z q : Float) → Within z-max z → Within (K 1) q → Within (fin false 1 (negsuc 0)) c → Within (K 1) (add binary64 c (mul binary64 z q))
unfolding add mul of_int le
step c z q Z Q C = add-in binary64 (fin false 1 (negsuc 0)) (fin false 1 (negsuc 3)) (K 1) c (mul binary64 z q) tt C (mul_in binary64 z-max (K 1) (fin false 1 (negsuc 3)) z q tt Z Q)

abbrev q-max : Float
q-max = fin false 9 (negsuc 2)

abbrev half : ℕ → Bool
half n = le (abs (coefficient (suc n))) (fin false 1 (negsuc 0))

-- what the last coefficient is added to
last : (n : ℕ) → T (every n half) → (z q : Float) → Within z-max z → Within (K 1) q → (v : Float) × Within (K 1) v × (series (suc n) z q ≡ add binary64 (coefficient 0) (mul binary64 z v))
unfolding series every
last zero t z q Z Q = (q, Q, refl)
last (suc n) t z q Z Q =
    let c = coefficient (suc n) in
    last n (and_l (every n half) (half n) t) z (add binary64 c (mul binary64 z q)) Z (step c z q Z Q (and_r (every n half) (half n) t))

series-size : (z : Float) → Within z-max z → Between (fin false 15 (negsuc 3)) (fin false 17 (negsuc 3)) (series 11 z (div binary64 (K 1) (K 23)))
unfolding every div of_int le add sub mul
series-size z Z =
    let l = last 10 tt z (div binary64 (K 1) (K 23)) Z tt in
    rw l.2 (near-in binary64 (coefficient 0) (fin false 1 (negsuc 3)) (fin false 15 (negsuc 3)) (fin false 17 (negsuc 3)) (mul binary64 z l.0) tt (mul_in binary64 z-max (K 1) (fin false 1 (negsuc 3)) z l.0 tt Z l.1))

-- ---- e * H and the rest
abbrev pub s-of : Float → Float
s-of m = div binary64 (sub binary64 m (whole 1)) (add binary64 m (whole 1))

abbrev q-of : Float → Float
q-of m = series 11 (mul binary64 (s-of m) (s-of m)) (div binary64 (whole 1) (whole 23))

abbrev pub rest : Float → Float → Float
rest m e = add binary64 (mul binary64 (mul binary64 (whole 2) (s-of m)) (q-of m)) (mul binary64 e L)

abbrev pub most : Float
most = fin false 5 (negsuc 2)

abbrev pub tiny : Float
tiny = fin false 1 (negsuc 20)

pub record Near (m e : Float) : Type 0 where
  pub finite-m : T (finite m)
  pub low : T (le lo m)
  pub high : T (le m hi)
  pub small-e : Within (K 53) e

module _ (m e : Float) (n : Near m e) where
  F : T (finite m)
  F = n.finite-m

  w : Within hi m
  w = within hi m n.high (order.le_trans (neg hi) lo m (unfold neg le in tt) n.low)

  divisor : T (finite (add binary64 m (whole 1)) && le (fin false 437 (negsuc 7)) (abs (add binary64 m (whole 1))))
  divisor = more-one m F n.low w

  S : Within (fin false 1 (negsuc 1)) (s-of m)
  S =
      div-in binary64 (fin false 425 (negsuc 9)) (fin false 437 (negsuc 7)) (fin false 1 (negsuc 1)) (sub binary64 m (whole 1)) (add binary64 m (whole 1)) (unfold div le in tt) divisor
      (less_one m F n.low n.high)

  Q : Between (fin false 15 (negsuc 3)) (fin false 17 (negsuc 3)) (q-of m)
  Q = series-size (mul binary64 (s-of m) (s-of m)) (mul_in binary64 (fin false 1 (negsuc 1)) (fin false 1 (negsuc 1)) z-max (s-of m) (s-of m) (unfold mul le in tt) S S)

  q-size : Within q-max (q-of m)
  q-size = within q-max (q-of m) (order.le_trans (q-of m) (fin false 17 (negsuc 3)) q-max Q.1 (unfold le in tt)) (order.le_trans (neg q-max) (fin false 15 (negsuc 3)) (q-of m) (unfold neg le in tt) Q.0)

  doubled : Within (fin false 1 (negsuc 0)) (mul binary64 (whole 2) (s-of m))
  doubled = mul_in binary64 (K 2) (fin false 1 (negsuc 1)) (fin false 1 (negsuc 0)) (whole 2) (s-of m) (unfold mul le of_int in tt) (unfold le of_int in tt) S

  X : Within (fin false 9 (negsuc 3)) (mul binary64 (mul binary64 (whole 2) (s-of m)) (q-of m))
  X = mul_in binary64 (fin false 1 (negsuc 0)) q-max (fin false 9 (negsuc 3)) (mul binary64 (whole 2) (s-of m)) (q-of m) (unfold mul le in tt) doubled q-size

  Y : Within tiny (mul binary64 e L)
  Y = mul_in binary64 (K 53) (fin false 1 (negsuc 30)) tiny e L (unfold mul le of_int in tt) n.small-e (unfold le of_bits in tt)

  pub rest-size : Within most (rest m e)
  rest-size = add-in binary64 (fin false 9 (negsuc 3)) tiny most (mul binary64 (mul binary64 (whole 2) (s-of m)) (q-of m)) (mul binary64 e L) (unfold add le in tt) X Y

  -- on one side of 1, (2 × s) × q has that side's sign
  s-sign : (b : Bool) → Sign b (sub binary64 m (whole 1)) → Sign b (mul binary64 (mul binary64 (whole 2) (s-of m)) (q-of m))
  s-sign b h =
      let d = add binary64 m (whole 1) in
      let Fd = and_l (finite d) (le (fin false 437 (negsuc 7)) (abs d)) divisor in
      let P = order.lt-of-lt-of-le' (of_bits binary64 0) (fin false 437 (negsuc 7)) d (unfold lt of_bits in tt) (above-one m F n.low) in
      let s = div-sign b (sub binary64 m (whole 1)) d (within-finite (fin false 425 (negsuc 9)) (sub binary64 m (whole 1)) tt (less_one m F n.low n.high)) Fd h P in
      let two = mul-sign false b (whole 2) (s-of m) (unfold of_int in tt) (within-finite (fin false 1 (negsuc 1)) (s-of m) tt S) (unfold le of_int of_bits in tt) s in
      subst (λ (c : Bool). Sign c (mul binary64 (mul binary64 (whole 2) (s-of m)) (q-of m))) (signs b)
      (mul-sign (unlike false b) false (mul binary64 (whole 2) (s-of m)) (q-of m) (within-finite (fin false 1 (negsuc 0)) (mul binary64 (whole 2) (s-of m)) tt doubled) (within-finite q-max (q-of m) tt q-size) two
      (order.le_trans (of_bits binary64 0) (fin false 15 (negsuc 3)) (q-of m) (unfold le of_bits in tt) Q.0))
    where
      signs : (b : Bool) → unlike (unlike false b) false ≡ b
      signs true = refl
      signs false = refl

  zero_more : Within tiny (add binary64 (of_bits binary64 0) (mul binary64 e L))
  zero_more = add-in binary64 (of_bits binary64 0) tiny tiny (of_bits binary64 0) (mul binary64 e L) (unfold add le of_bits in tt) (unfold le of_bits in tt) Y

  pub rest_up : T (le m (whole 1)) → T (le (rest m e) tiny)
  rest_up h =
      let x = mul binary64 (mul binary64 (whole 2) (s-of m)) (q-of m) in
      order.le_trans (rest m e) (add binary64 (of_bits binary64 0) (mul binary64 e L)) tiny
      (add_left x (of_bits binary64 0) (mul binary64 e L) (within-finite (fin false 9 (negsuc 3)) x tt X) (unfold of_bits in tt) (within-finite tiny (mul binary64 e L) tt Y)
      (s-sign true (order.le_trans (sub binary64 m (whole 1)) (sub binary64 (whole 1) (whole 1)) (of_bits binary64 0) (sub-left m (whole 1) (whole 1) F (unfold of_int in tt) (unfold of_int in tt) h) (unfold sub add neg le of_int of_bits in tt))))
      (upper tiny (add binary64 (of_bits binary64 0) (mul binary64 e L)) zero_more)

  pub rest-down : T (le (whole 1) m) → T (le (neg tiny) (rest m e))
  rest-down h =
      let x = mul binary64 (mul binary64 (whole 2) (s-of m)) (q-of m) in
      order.le_trans (neg tiny) (add binary64 (of_bits binary64 0) (mul binary64 e L)) (rest m e)
      (lower tiny (add binary64 (of_bits binary64 0) (mul binary64 e L)) zero_more)
      (add_left (of_bits binary64 0) x (mul binary64 e L) (unfold of_bits in tt) (within-finite (fin false 9 (negsuc 3)) x tt X) (within-finite tiny (mul binary64 e L) tt Y)
      (s-sign false (order.le_trans (of_bits binary64 0) (sub binary64 (whole 1) (whole 1)) (sub binary64 m (whole 1)) (unfold sub add neg le of_int of_bits in tt) (sub-left (whole 1) m (whole 1) (unfold of_int in tt) F (unfold of_int in tt) h))))

  e-size : Within (fin false 147 (negsuc 1)) (mul binary64 e H)
  e-size = mul_in binary64 (K 53) H (fin false 147 (negsuc 1)) e H (unfold mul le of_int of_bits in tt) n.small-e (unfold le of_bits in tt)

  -- with a bound for e and one for the rest
  pub ln-up : (c b d : Float) → T (finite c) → T (finite (mul binary64 c H)) → T (finite b) → T (le (add binary64 (mul binary64 c H) b) d) → T (le e c) → T (le (rest m e) b) → T (le (series_of m e) d)
  unfolding series_of
  ln-up c b d Fc FcH Fb t ec rb =
      let e_h = mul binary64 e H in
      let c_h = mul binary64 c H in
      let r = rest m e in
      let Fe = within-finite (K 53) e (unfold of_int in tt) n.small-e in
      let Fr = within-finite most r tt rest-size in
      order.le_trans (add binary64 e_h r) (add binary64 c_h b) d
      (order.le_trans (add binary64 e_h r) (add binary64 c_h r) (add binary64 c_h b) (add_left e_h c_h r (within-finite (fin false 147 (negsuc 1)) e_h tt e-size) FcH Fr (mul_left e c H Fe Fc (unfold of_bits in tt) ec)) (add_right c_h r b FcH Fr Fb rb))
      t

  pub ln-down : (c b d : Float) → T (finite c) → T (finite (mul binary64 c H)) → T (finite b) → T (le d (add binary64 (mul binary64 c H) b)) → T (le c e) → T (le b (rest m e)) → T (le d (series_of m e))
  unfolding series_of
  ln-down c b d Fc FcH Fb t ce br =
      let e_h = mul binary64 e H in
      let c_h = mul binary64 c H in
      let r = rest m e in
      let Fe = within-finite (K 53) e (unfold of_int in tt) n.small-e in
      let Fr = within-finite most r tt rest-size in
      order.le_trans d (add binary64 c_h b) (add binary64 e_h r) t
      (order.le_trans (add binary64 c_h b) (add binary64 c_h r) (add binary64 e_h r) (add_right c_h b r FcH Fb Fr br) (add_left c_h e_h r FcH (within-finite (fin false 147 (negsuc 1)) e_h tt e-size) Fr (mul_left c e H Fc Fe (unfold of_bits in tt) ce)))
