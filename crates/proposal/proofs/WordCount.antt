-- How many words a new trial's values take: with a model candidates × continuous + choices, without one the dimension count. Assumes nothing.
use Prim.Native.Nat.{ℕ, suc, ◌+◌, ◌*◌, ◌-◌, ◌^◌, ◌≤◌, ◌<◌}
use mathlib.Core.Path.{◌≡◌, refl, sym, ap, ◌∙◌, subst}
use mathlib.Core.Bool.{Bool, true, false, ◌&&◌, cond}
use mathlib.Core.List.{List, []}
use native.Mathlib.Nat.{le_refl, pos_of_ne-zero}
use native.Mathlib.Omega.{arith}
use lib.Dec.{T, leb}
use lib.ListN.{length}
use lib.Ieee.{Float}
use Rattle.arith.specs.Lists.{places_of}
use Rattle.rng_util.proofs.Nonzero.{Nonzero, moved-nonzero}
use Rattle.distribution.specs.declared.Distribution.{Distribution}
use Rattle.distribution_words.specs.RoundTrip.{Held}
use Rattle.distribution.specs.Shape.{shape_of, continuous_of}
use Rattle.arith.specs.Outcome.{made}
use Rattle.rng_util.specs.declared.Draw.{Draw}
use Rattle.rng_util.specs.Draws.{drawn_by}
use Rattle.distribution.specs.declared.ParamValue.{ParamValue}
use Rattle.common.specs.Random.{sample_random_of}
use Rattle.encoding.proofs.EndLaws.{FloatsFit}
use Rattle.common.proofs.Facts.{random-accepted}
use Rattle.std.specs.Prelude.{Option, Some, None, Result, Ok, Err, is_ok}
use Rattle.std.specs.Option.{is_some}
use Rattle.refusal.specs.declared.Refusal.{Refusal}
use Rattle.gp_model.specs.declared.Model.{Model}
use Rattle.dimensions.specs.declared.DimensionInfo.{DimensionInfo}
use Rattle.history.specs.declared.Training.{Training}
use Rattle.history_view.specs.declared.View.{View}
use Rattle.dimensions.specs.Dimensions.{dimension_at, dimension_ok, dimensions_ok, columns_of}
use Rattle.param_mapping.specs.Mapping.{asked_of}
use Rattle.history.specs.Training.{recent_training}
use Rattle.history_view.specs.View.{view_of, seen_of}
use Rattle.history.proofs.FromArray.{training-is}
use Rattle.param_mapping.proofs.Opened.{accepted}
use Rattle.dimensions.proofs.Ok.{dimensions-ok}
use Rattle.history_view.proofs.Values.{floats-fit, bounds-shape}
use Rattle.settings.specs.declared.Settings.{Settings}
use Rattle.proposal.specs.Points.{fit_for, point_by, point_for}
use Rattle.proposal.specs.Proposal.{after, from_point, candidate_of, compute_candidate_of}
use Rattle.proposal.specs.Values.{Values, decode_of, coordinate_of, undrawn, step_of, step_at, walk_more, walk_of, values_in, walked_of}
use Rattle.proposal.proofs.Moving.{point-moves}
use Rattle.proposal.proofs.Numbers.{made-by}
use Rattle.proposal.proofs.Walk.{unmade, walk-all, walked, columns-next}

-- a distribution whose draws are accepted
abbrev pub Drawable : Distribution → Type 0
Drawable d = FloatsFit d × T (shape_of d)

-- each draw takes one word
pub random-word : (w : ℕ) (d : Distribution) → Nonzero w → Drawable d → drawn_by (sample_random_of w d) ≡ 1
random-word w d n r = ap drawn_by (random-accepted w d n r.0 r.1).is

step-word : (d : DimensionInfo) (u : Option Float) (w : ℕ) (r : Draw ParamValue) → Nonzero w → Drawable d.distribution → step_of d u w ≡ Ok r → r.drawn ≡ cond (is_some u && continuous_of d.distribution) 0 1
unfolding step_of
step-word d u w r n f = go u
  where
    random : sample_random_of w d.distribution ≡ Ok r → r.drawn ≡ 1
    random e = sym (ap drawn_by e) ∙ random-word w d.distribution n f

    some : (x : Float) (b : Bool) → cond b (made (undrawn w) (decode_of d x)) (sample_random_of w d.distribution) ≡ Ok r → r.drawn ≡ cond b 0 1
    some x true e = ap (λ (r : Draw ParamValue). r.drawn) (sym (unmade (undrawn w) (decode_of d x) r e).2)
    some x false e = random e

    go : (u : Option Float) → step_of d u w ≡ Ok r → r.drawn ≡ cond (is_some u && continuous_of d.distribution) 0 1
    go None e = random e
    go (Some x) e = some x (continuous_of d.distribution) e

-- a word for each dimension that is not decoded
one_more : (given continuous : Bool) (drawn x columns next j : ℕ) → drawn + cond given columns 0 ≡ j → x ≡ cond (given && continuous) 0 1 → columns + cond continuous 1 0 ≡ next → drawn + x + cond given next 0 ≡ suc j
one_more true true drawn x columns next j p q e = omega arith
one_more true false drawn x columns next j p q e = omega arith
one_more false continuous drawn x columns next j p q e = omega arith

-- of the first j dimensions of k
abbrev Words : Option (List Float) → List DimensionInfo → ℕ → ℕ → Values → Type 0
Words point dims k j b = j ≤ k → b.drawn + cond (is_some point) (length (columns_of dims j)) 0 ≡ j

module _ (point : Option (List Float)) (dims : List DimensionInfo) (w : ℕ) (n : Nonzero w) (k : ℕ) (r : (i : ℕ) → i < k → Drawable (dimension_at dims i).distribution) where
  -- how many words the first j take
  pub words-at : (j : ℕ) (b : Values) → walk_of point dims j w ≡ Ok b → Words point dims k j b
  unfolding columns_of places_of
  words-at = walk-all point dims w (Words point dims k) none more
    where
      none : Words point dims k 0 (record { value = []; drawn = 0; next = w })
      none l = go (is_some point)
        where
          go : (g : Bool) → 0 + cond g 0 0 ≡ 0
          go true = refl
          go false = refl

      coordinates : (o : Option (List Float)) (c : ℕ) → is_some (coordinate_of o c) ≡ is_some o
      coordinates (Some x) c = refl
      coordinates None c = refl

      more : (j : ℕ) (b : Values) (r : Draw ParamValue) → walk_of point dims j w ≡ Ok b → Words point dims k j b → step_at point dims j b.next ≡ Ok r → Words point dims k (suc j) (walk_more b r)
      more j b x e p s l =
          let u = coordinate_of point (length (columns_of dims j)) in
          let m : Nonzero b.next = subst Nonzero (sym (walked point dims w j b e).next) (moved-nonzero b.drawn w n) in
          one_more (is_some point) (continuous_of (dimension_at dims j).distribution) b.drawn x.drawn (length (columns_of dims j)) (length (columns_of dims (suc j))) j (p (omega arith))
          (step-word (dimension_at dims j) u b.next x m (r j (omega arith)) s ∙ ap (λ (g : Bool). cond (g && continuous_of (dimension_at dims j).distribution) 0 1) (coordinates point (length (columns_of dims j)))) (columns-next dims j)

  walk-words : (c : Values) → walked_of point dims k w ≡ Ok c → c.drawn + cond (is_some point) (length (columns_of dims k)) 0 ≡ k
  walk-words c e =
      let u = unmade values_in (walk_of point dims k w) c e in
      ap (λ (d : Values). d.drawn + cond (is_some point) (length (columns_of dims k)) 0) (sym u.2) ∙ words-at k u.0 u.1 (le_refl k)

-- ---- by a view whose training data have a column for each continuous dimension

module _ (s : Settings) (dims : List DimensionInfo) (k w : ℕ) (n : Nonzero w) (ready : (i : ℕ) → i < k → Drawable (dimension_at dims i).distribution) where
  abbrev columns : ℕ
  columns = length (columns_of dims k)

  abbrev words : Training → Bool → ℕ
  words t made = cond (made && is_ok (fit_for t s.noise_variance)) (s.n_candidates * columns + (k - columns)) k

  -- the words of a point
  pub point-drawn : (t : Training) → t.d ≡ columns → (point_for t s.noise_variance s.n_candidates w).drawn ≡ cond (is_ok (fit_for t s.noise_variance)) (s.n_candidates * columns) columns
  unfolding point_for
  point-drawn t e = go (fit_for t s.noise_variance)
    where
      go : (f : Result Model Refusal) → (point_by f t.d s.n_candidates w).drawn ≡ cond (is_ok f) (s.n_candidates * columns) columns
      go (Ok m) = ap (λ (d : ℕ). s.n_candidates * d) e
      go (Err r) = e

  point-words : (t : Training) → t.d ≡ columns → (c : Values) → from_point dims k (point_for t s.noise_variance s.n_candidates w) ≡ Ok c → c.drawn ≡ words t true
  point-words t e c q =
      let p = point_for t s.noise_variance s.n_candidates w in
      let m : Nonzero p.next = subst Nonzero (sym (point-moves t s.noise_variance s.n_candidates w)) (moved-nonzero p.drawn w n) in
      let u = unmade (after p.drawn) (walked_of (Some p.value) dims k p.next) c q in
      ap (λ (d : Values). d.drawn) (sym u.2)
      ∙ sum (is_ok (fit_for t s.noise_variance)) p.drawn u.0.drawn (s.n_candidates * columns) (point-drawn t e) (walk-words (Some p.value) dims p.next m k ready u.0 u.1)
    where
      sum : (b : Bool) (x y m : ℕ) → x ≡ cond b m columns → y + columns ≡ k → x + y ≡ cond b (m + (k - columns)) k
      sum true x y m p q = omega arith
      sum false x y m p q = omega arith

  candidate-words : (v : View) → v.training.d ≡ columns → (c : Values) → candidate_of s dims k w v ≡ Ok c → c.drawn ≡ words v.training (v.reached && leb 1 v.training.d)
  unfolding candidate_of
  candidate-words v e c = go (v.reached && leb 1 v.training.d)
    where
      go : (b : Bool) → cond b (from_point dims k (point_for v.training s.noise_variance s.n_candidates w)) (walked_of None dims k w) ≡ Ok c → c.drawn ≡ words v.training b
      go true q = point-words v.training e c q
      go false q = let p = walk-words None dims w n k ready c q in omega arith

-- ---- by a history, where the values are made

module _ (s : Settings) (dims : List DimensionInfo) (k w : ℕ) (h : List ℕ) where
  abbrev view : View
  view = seen_of s.slots s.n_startup_trials dims k h

  pub view-columns : asked_of s.slots dims k h ≡ Ok tt → view.training.d ≡ length (columns_of dims k)
  unfolding view_of recent_training
  view-columns e = rw (training-is s.slots dims k h e)

  pub drawable : T (dimensions_ok dims k) → ((i : ℕ) → i < k → Held (dimension_at dims i).distribution) → (i : ℕ) → i < k → Drawable (dimension_at dims i).distribution
  unfolding dimension_ok
  drawable t held i l = let d = dimension_at dims i in (floats-fit d.distribution (held i l), bounds-shape d.distribution d.lo d.hi ((dimensions-ok dims k t).1 i l))

  pub compute-words : w < 2 ^ 64 → ((i : ℕ) → i < k → Held (dimension_at dims i).distribution) → (c : Values) → compute_candidate_of s dims k w h ≡ Ok c
      → c.drawn
      ≡ cond ((view.reached && leb 1 view.training.d) && is_ok (fit_for view.training s.noise_variance)) (s.n_candidates * length (columns_of dims k) + (k - length (columns_of dims k))) k
  compute-words small held c e =
      let m = made-by s dims k w h c e in
      candidate-words s dims k w (pos_of_ne-zero m.word, small) (drawable (accepted s.slots dims k h m.asked).0 held) view (view-columns m.asked) c m.is
