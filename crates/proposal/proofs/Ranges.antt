-- A new trial's values are in range: what a fit is refused with, the coordinates of a point, and each value of a walk. Assumes nothing.
use Prim.Native.Nat.{ℕ, zero, suc, ◌+◌, ◌*◌, ◌^◌, ◌<◌}
use mathlib.Core.Path.{◌≡◌, refl, sym, ap, ◌∙◌, subst}
use mathlib.Core.Bool.{Bool, true, false, ◌&&◌, ◌||◌, cond}
use mathlib.Core.List.{List, []}
use mathlib.Core.Logic.{◌⊎◌, inl, inr}
use native.Mathlib.Nat.{eq-or-lt_of_le, eq-zero-or-pos, le_of_suc-le-suc, not-suc-le-zero}
use native.Mathlib.Omega.{arith}
use lib.Dec.{T, eqb, leb}
use lib.ListN.{length, get_or, replicate, length-replicate, get_or-replicate}
use lib.Ieee.{Float, nan, binary64, fits, le, of_bits, of_int}
use lib.Ieee.Bits.{is_true}
use lib.Ieee.Fits.{and_l}
use Rattle.arith.specs.Bounds.{Between}
use Rattle.arith.specs.Lists.{list_of, padded}
use Rattle.arith.proofs.Lists.{grown-at, grown-padded-at, padded-at}
use Rattle.arith.proofs.Order as order
use Rattle.arith.proofs.Tests.{taken, by-test}
use Rattle.arith.specs.Outcome.{made}
use Rattle.rng_util.specs.declared.Draw.{Draw}
use Rattle.rng_util.specs.Draws.{unit_of}
use Rattle.rng_util.specs.Generator.{next_of, moved_of, stream_of}
use Rattle.rng_util.proofs.Nonzero.{Nonzero, next-nonzero, moved-nonzero}
use Rattle.rng_util.proofs.Unit as unit
use Rattle.distribution.specs.declared.Distribution.{Distribution}
use Rattle.distribution.specs.declared.ParamValue.{ParamValue}
use Rattle.distribution_words.specs.RoundTrip.{Held}
use Rattle.distribution.specs.Range.{in_range}
use Rattle.distribution.specs.Shape.{shape_of, continuous_of}
use Rattle.distribution.proofs.Facts.{parts}
use Rattle.common.specs.Decode.{one}
use Rattle.common.specs.Random.{sample_random_of}
use Rattle.common.proofs.Facts.{decode-accepted, random-accepted}
use Rattle.std.specs.Prelude.{Option, Some, None, Result, Ok, Err}
use Rattle.refusal.specs.declared.Refusal.{Refusal}
use Rattle.refusal.specs.declared.Refusal.TheVariants.{OutOfDomain, NoRows, Pivot}
use Rattle.refusal.specs.Numbers.{number_of}
use Rattle.factor.specs.Cholesky.{factor_of, positive, cholesky_of}
use Rattle.factor.specs.Triangle.{entry, rows_of}
use Rattle.gp_model.specs.declared.Model.{Model}
use Rattle.gp_model.specs.Fit.{fit_domain, factored_of, fitted_of, fit_of}
use Rattle.gp_model.specs.Kernels.{kernel_matrix_of}
use Rattle.scaling.specs.Scaling.{from_normalized_of}
use Rattle.search.specs.Search.{point_of, optimum_of}
use Rattle.gp_model.specs.Statistics.{lengthscales_of}
use Rattle.search.proofs.Earliest.{earliest}
use Rattle.dimensions.specs.declared.DimensionInfo.{DimensionInfo}
use Rattle.history.specs.declared.Training.{Training}
use Rattle.history_view.specs.declared.View.{View}
use Rattle.dimensions.specs.Dimensions.{dimension_at, dimension_ok, columns_of}
use Rattle.history_view.proofs.Values.{Column, floats-fit, bounds-shape, shape, ends}
use Rattle.settings.specs.declared.Settings.{Settings}
use Rattle.proposal.specs.Points.{fit_for, point_by, point_for}
use Rattle.proposal.specs.Proposal.{after, from_point, candidate_of}
use Rattle.dimensions.specs.Empty.{empty_value}
use Rattle.proposal.specs.Values.{Values, decode_of, coordinate_of, undrawn, step_of, step_at, walk_more, walk_of, values_in, walked_of}
use Rattle.proposal.proofs.Moving.{model-columns, point-moves}
use Rattle.proposal.proofs.Walk.{walked, Step, walked-in, columns-next}

-- ---- the numbers of a fit

abbrev pub fit_number : ℕ → Bool
fit_number n = eqb n 0 || eqb n 12 || eqb n 13

cholesky-number : (a : List Float) (n : ℕ) → T (leb n 100) → (number_of (cholesky_of a n) ≡ 0) ⊎ (number_of (cholesky_of a n) ≡ 13)
unfolding cholesky_of
cholesky-number a n h = go (leb n 100) (positive (entry a) n) h
  where
    go : (b c : Bool) → T b → let f : Result (List Float) Refusal = cond b (cond c (Ok (padded 5050 (rows_of (factor_of (entry a)) n))) (Err Pivot)) (Err OutOfDomain) in (number_of f ≡ 0) ⊎ (number_of f ≡ 13)
    go true true t = inl refl
    go true false t = inr refl
    go false c t = absurd t

factored-number : (x y : List Float) (d : ℕ) (f : Result (List Float) Refusal) → (number_of f ≡ 0) ⊎ (number_of f ≡ 13) → T (fit_number (number_of (factored_of x y d f)))
factored-number x y d (Ok l) h = tt
factored-number x y d (Err r) (inl e) = rw e tt
factored-number x y d (Err r) (inr e) = rw e tt

-- 12 without rows, 13 where the factor has none; in the domain there is no 11
pub fit-number : (x y : List Float) (d : ℕ) (noise : Float) → fit_domain x y d ≡ true → T (fit_number (number_of (fit_of x y d noise)))
unfolding fit_of fitted_of
fit-number x y d noise e = go (fit_domain x y d) (eqb (length y) 0) (taken e) (few (taken e))
  where
    few : T (fit_domain x y d) → T (leb (length y) 100)
    few t = unfold fit_domain in search parts depth 9

    k : List Float
    k = kernel_matrix_of x (length y) d (lengthscales_of x (length y) d) noise

    go : (a b : Bool) → T a → T (leb (length y) 100) → T (fit_number (number_of (cond a (cond b (Err NoRows) (factored_of x y d (cholesky_of k (length y)))) (Err OutOfDomain))))
    go true true p l = tt
    go true false p l = factored-number x y d (cholesky_of k (length y)) (cholesky-number k (length y) l)
    go false b p l = absurd p

-- ---- coordinates from 0 to 1

abbrev pub Coordinate : Float → Type 0
Coordinate u = Between (of_bits binary64 0) one u

unit-coordinate : (word : ℕ) → word < 2 ^ 64 → Coordinate (unit_of word)
unit-coordinate word h = (unit.unit-nonnegative word h, order.le_of_lt (unit_of word) one (unit.unit-below-one word h))

half-coordinate : Coordinate (of_bits binary64 0x3fe0000000000000)
unfolding of_bits of_int le
half-coordinate = (tt, tt)

-- each word of a stream has 64 bits
pub stream-small : (n w i : ℕ) → Nonzero w → get_or (stream_of n w) i 0 < 2 ^ 64
unfolding stream_of
stream-small zero w i h = omega arith
stream-small (suc n) w zero h = (next-nonzero w h).1
stream-small (suc n) w (suc i) h = stream-small n (next_of w) i (next-nonzero w h)

drawn-coordinate : (f : ℕ → ℕ) (d i : ℕ) (x : List Float) → x ≡ padded 20 (list_of (λ j. unit_of (f j)) d) → ((j : ℕ) → f j < 2 ^ 64) → i < d → Coordinate (get_or x i nan)
drawn-coordinate f d i x e h l =
    subst Coordinate (sym (ap (λ (y : List Float). get_or y i nan) e ∙ grown-padded-at 20 (λ xs j. unit_of (f j)) d i l ∙ grown-at (λ xs j. unit_of (f j)) d i l)) (unit-coordinate (f i) (h i))

pub point-coordinate : (t : Training) (noise : Float) (candidates w i : ℕ) → Nonzero w → i < t.d → Coordinate (get_or (point_for t noise candidates w).value i nan)
unfolding point_for
point-coordinate t noise candidates w i h l = go (fit_for t noise) refl
  where
    searched : (m : Model) → fit_for t noise ≡ Ok m → Coordinate (get_or (optimum_of m candidates w).x i nan)
    searched m e =
        let r = earliest m candidates w in
        let k : i < m.d = subst (λ (n : ℕ). i < n) (sym (model-columns t noise m e)) l in
        elim (eq-zero-or-pos candidates) [
          | inl z ↦ subst Coordinate (sym (ap (λ (y : List Float). get_or y i nan) (r.none z)
              ∙ padded-at 20 (replicate m.d (of_bits binary64 0x3fe0000000000000)) i (rw (length-replicate m.d (of_bits binary64 0x3fe0000000000000)) k)
              ∙ get_or-replicate m.d i (of_bits binary64 0x3fe0000000000000) nan k)) half-coordinate
          | inr p ↦ let f = r.found p in drawn-coordinate (λ j. get_or (stream_of (candidates * m.d) w) (f.index * m.d + j) 0) m.d i (optimum_of m candidates w).x f.point (λ j. stream-small (candidates * m.d) w (f.index * m.d + j) h) k
        ]

    go : (f : Result Model Refusal) → fit_for t noise ≡ f → Coordinate (get_or (point_by f t.d candidates w).value i nan)
    go (Ok m) e = searched m e
    go (Err r) e = drawn-coordinate (λ j. moved_of (suc j) w) t.d i (padded 20 (point_of t.d w)) refl (λ j. (moved-nonzero (suc j) w h).1) l

-- a dimension as a program has it, with its distribution's bounds
pub record Formed (d : DimensionInfo) : Type 0 where
  pub ok : T (dimension_ok d)
  pub held : Held d.distribution
  pub lo-fits : T (fits binary64 d.lo)
  pub hi-fits : T (fits binary64 d.hi)

-- an accepted draw of a value in range
pub record DrawnIn (d : Distribution) (r : Result (Draw ParamValue) Refusal) : Type 0 where
  pub draw : Draw ParamValue
  pub is : r ≡ Ok draw
  pub range : T (in_range d draw.value)

pub random-ranged : (w : ℕ) (d : Distribution) → Nonzero w → Held d → T (shape_of d) → DrawnIn d (sample_random_of w d)
random-ranged w d h f t =
    let r = random-accepted w d h (floats-fit d f) t in
    record { draw = record { value = r.value; drawn = 1; next = next_of w }; is = r.is; range = r.holds }

step-ranged : (d : DimensionInfo) (u : Option Float) (w : ℕ) → Formed d → Nonzero w → ((x : Float) → u ≡ Some x → T (continuous_of d.distribution) → Coordinate x) → DrawnIn d.distribution (step_of d u w)
unfolding step_of from_normalized_of
step-ranged d u w r h = go u
  where
    random : DrawnIn d.distribution (sample_random_of w d.distribution)
    random = random-ranged w d.distribution h r.held (bounds-shape d.distribution d.lo d.hi (unfold dimension_ok in r.ok))

    decoded : (x : Float) → T (continuous_of d.distribution) → Coordinate x → DrawnIn d.distribution (made (undrawn w) (decode_of d x))
    decoded x c b =
        let q : Column d = record { ok = r.ok; continuous = c; held = r.held; lo-fits = r.lo-fits; hi-fits = r.hi-fits } in
        let v = decode-accepted d.distribution (floats-fit d.distribution r.held) (shape d q) d.lo d.hi (ends d q) x b in
        record { draw = undrawn w v.value; is = ap (made (undrawn w)) v.is; range = v.range }

    go : (u : Option Float) → ((x : Float) → u ≡ Some x → T (continuous_of d.distribution) → Coordinate x) → DrawnIn d.distribution (step_of d u w)
    go None b = random
    go (Some x) b = by-test (DrawnIn d.distribution) (continuous_of d.distribution) _ _ (λ c. decoded x (taken c) (b x refl (taken c))) (λ _. random)

-- ---- the values of a walk

-- an accepted answer of values in range
pub record Ready (dims : List DimensionInfo) (k : ℕ) (r : Result Values Refusal) : Type 0 where
  pub made : Values
  pub is : r ≡ Ok made
  pub range : (i : ℕ) → i < k → T (in_range (dimension_at dims i).distribution (get_or made.value i empty_value))

module _ (point : Option (List Float)) (dims : List DimensionInfo) (w : ℕ) (h : Nonzero w) where
  -- what the first k dimensions ask
  record Asks (k : ℕ) : Type 0 where
    formed : (j : ℕ) → j < k → Formed (dimension_at dims j)
    coordinate : (j : ℕ) → j < k → (x : Float) → coordinate_of point (length (columns_of dims j)) ≡ Some x → T (continuous_of (dimension_at dims j).distribution) → Coordinate x

  step-in : (k : ℕ) → Asks k → (i n : ℕ) → i < k → DrawnIn (dimension_at dims i).distribution (step_at point dims i (moved_of n w))
  step-in k a i n l = step-ranged (dimension_at dims i) (coordinate_of point (length (columns_of dims i))) (moved_of n w) (a.formed i l) (moved-nonzero n w h) (a.coordinate i l)

  walk-accepted : (k : ℕ) → Asks k → (b : Values) × (walk_of point dims k w ≡ Ok b)
  unfolding walk_of
  walk-accepted zero a = (record { value = []; drawn = 0; next = w }, refl)
  walk-accepted (suc k) a =
      let p = walk-accepted k (record { formed = λ j l. a.formed j (omega arith); coordinate = λ j l. a.coordinate j (omega arith) }) in
      let n = (walked point dims w k p.0 p.1).next in
      let r = step-in (suc k) a k p.0.drawn (omega arith) in
      (walk_more p.0 r.draw, rw (p.1, n, r.is))

  walk-ranged : (k : ℕ) → Asks k → Ready dims k (walked_of point dims k w)
  walk-ranged k a =
      let p = walk-accepted k a in
      let e : walked_of point dims k w ≡ Ok (values_in p.0) = ap (made values_in) p.1 in
      record { made = values_in p.0; is = e; range = λ i l. ranged i l ((walked-in point dims w k (values_in p.0) e).values i l) }
    where
      ranged : (i : ℕ) {v : ParamValue} → i < k → Step point dims w i v → T (in_range (dimension_at dims i).distribution v)
      ranged i l s =
          let r = step-in k a i s.before.drawn l in
          let q : r.draw ≡ s.draw = cc (r.is, s.is) in
          rw s.value (subst (λ (d : Draw ParamValue). T (in_range (dimension_at dims i).distribution d.value)) q r.range)

-- a continuous dimension has a column of its own
pub column-below : (dims : List DimensionInfo) (k j : ℕ) → j < k → T (continuous_of (dimension_at dims j).distribution) → length (columns_of dims j) < length (columns_of dims k)
column-below dims zero j l c = absurd (not-suc-le-zero l)
column-below dims (suc k) j l c =
    let e = columns-next dims k in
    elim (eq-or-lt_of_le (le_of_suc-le-suc l)) [
      | inl q ↦ subst (λ (n : ℕ). length (columns_of dims n) < length (columns_of dims (suc k))) (sym q)
          (let f = rw (is_true (continuous_of (dimension_at dims k).distribution) (subst (λ (n : ℕ). T (continuous_of (dimension_at dims n).distribution)) q c)) at e in omega arith)
      | inr m ↦ let p = column-below dims k j m c in omega arith
    ]

-- ---- a new trial's values, by a view whose columns are those of the dimensions

pub candidate-ranged : (s : Settings) (dims : List DimensionInfo) (k w : ℕ) (v : View) → Nonzero w → (T v.reached → v.training.d ≡ length (columns_of dims k))
    → ((j : ℕ) → j < k → Formed (dimension_at dims j))
    → Ready dims k (candidate_of s dims k w v)
unfolding candidate_of
candidate-ranged s dims k w v h columns formed =
    by-test (Ready dims k) (v.reached && leb 1 v.training.d) _ _ (λ e. given (and_l v.reached (leb 1 v.training.d) (taken e))) (λ _. walk-ranged None dims w h k (record { formed = formed; coordinate = λ j l x e. absurd (cc) }))
  where
    p : Draw (List Float)
    p = point_for v.training s.noise_variance s.n_candidates w

    given : T v.reached → Ready dims k (from_point dims k p)
    given r =
        let z : Nonzero p.next = subst Nonzero (sym (point-moves v.training s.noise_variance s.n_candidates w)) (moved-nonzero p.drawn w h) in
        let b = walk-ranged (Some p.value) dims p.next z k (record {
          formed = formed;
          coordinate = λ j m x e c. let q : get_or p.value (length (columns_of dims j)) nan ≡ x = cc in
              subst Coordinate q (point-coordinate v.training s.noise_variance s.n_candidates w (length (columns_of dims j)) h (rw (columns r) (column-below dims k j m c)));
        }) in
        record { made = after p.drawn b.made; is = ap (made (after p.drawn)) b.is; range = b.range }
