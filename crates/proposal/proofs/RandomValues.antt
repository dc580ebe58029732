-- The random values of a new trial: each is drawn from its dimension's distribution, at the word after those before it; and after a refused fit the continuous dimensions decode unit floats. Assumes nothing.
use Prim.Native.Nat.{ℕ, suc, ◌+◌, ◌-◌, ◌*◌, ◌^◌, ◌<◌}
use mathlib.Core.Path.{◌≡◌, sym, ap, ◌∙◌, subst}
use mathlib.Core.Bool.{Bool, true, false, ◌&&◌, cond}
use mathlib.Core.List.{List}
use native.Mathlib.Nat.{pos_of_ne-zero}
use native.Mathlib.Omega.{arith}
use lib.Dec.{T, leb}
use lib.ListN.{length, get_or}
use lib.Ieee.{Float, nan}
use Rattle.std.specs.Prelude.{Some, None, Result, Ok, Err, is_ok}
use Rattle.arith.proofs.Lists.{grown-at, grown-padded-at}
use Rattle.refusal.specs.declared.Refusal.{Refusal}
use Rattle.rng_util.specs.declared.Draw.{Draw}
use Rattle.rng_util.specs.Draws.{unit_of}
use Rattle.rng_util.specs.Generator.{moved_of}
use Rattle.rng_util.proofs.Nonzero.{Nonzero, moved-nonzero}
use Rattle.distribution.specs.Shape.{continuous_of}
use Rattle.distribution_words.specs.RoundTrip.{Held}
use Rattle.gp_model.specs.declared.Model.{Model}
use Rattle.dimensions.specs.declared.DimensionInfo.{DimensionInfo}
use Rattle.dimensions.specs.Dimensions.{dimension_at, columns_of}
use Rattle.dimensions.specs.Empty.{empty_value}
use Rattle.history_view.specs.declared.View.{View}
use Rattle.history_view.specs.View.{seen_of}
use Rattle.param_mapping.proofs.Opened.{accepted}
use Rattle.settings.specs.declared.Settings.{Settings}
use Rattle.proposal.specs.Points.{fit_for, point_by, point_for}
use Rattle.proposal.specs.Proposal.{after, from_point, candidate_of, compute_candidate_of}
use Rattle.proposal.specs.Values.{Values, DrawnFrom, decode_of, step_of, walked_of}
use Rattle.proposal.proofs.Decoded.{from-point}
use Rattle.proposal.proofs.Moving.{point-moves}
use Rattle.proposal.proofs.Numbers.{made-by}
use Rattle.proposal.proofs.Ranges.{column-below}
use Rattle.proposal.proofs.Walk.{unmade, moves-on, walked-in}
use Rattle.proposal.proofs.WordCount.{Drawable, words-at, point-drawn, view-columns, drawable}

-- ---- of a walk

module _ (dims : List DimensionInfo) (w : ℕ) (n : Nonzero w) (k : ℕ) (r : (i : ℕ) → i < k → Drawable (dimension_at dims i).distribution) (c : Values) (j : ℕ) (l : j < k) where
  -- without a point each dimension's value
  all-drawn : walked_of None dims k w ≡ Ok c → DrawnFrom (moved_of j w) (dimension_at dims j).distribution (get_or c.value j empty_value)
  unfolding step_of
  all-drawn e =
      let s = (walked-in None dims w k c e).values j l in
      let q : s.before.drawn ≡ j = (let a = words-at None dims w n k r j s.before s.walks (omega arith) in omega arith) in
      subst (λ (m : ℕ). DrawnFrom (moved_of m w) (dimension_at dims j).distribution (get_or c.value j empty_value)) q (record { draw = s.draw; drawn = s.is; value = s.value })

  -- with one those of the choices
  choice-drawn : (x : List Float) → continuous_of (dimension_at dims j).distribution ≡ false → walked_of (Some x) dims k w ≡ Ok c
      → DrawnFrom (moved_of (j - length (columns_of dims j)) w) (dimension_at dims j).distribution (get_or c.value j empty_value)
  unfolding step_of
  choice-drawn x f e =
      let s = (walked-in (Some x) dims w k c e).values j l in
      let q : s.before.drawn ≡ j - length (columns_of dims j) = (let a = words-at (Some x) dims w n k r j s.before s.walks (omega arith) in omega arith) in
      subst (λ (m : ℕ). DrawnFrom (moved_of m w) (dimension_at dims j).distribution (get_or c.value j empty_value)) q (record { draw = s.draw; drawn = rw f at s.is; value = s.value })

-- ---- of a new trial

module _ (s : Settings) (dims : List DimensionInfo) (k w : ℕ) (h : List ℕ) (c : Values) (e : compute_candidate_of s dims k w h ≡ Ok c) (small : w < 2 ^ 64) (held : (i : ℕ) → i < k → Held (dimension_at dims i).distribution) where
  abbrev view : View
  view = seen_of s.slots s.n_startup_trials dims k h

  abbrev fits : Bool
  fits = view.reached && leb 1 view.training.d

  abbrev fit : Result Model Refusal
  fit = fit_for view.training s.noise_variance

  abbrev columns : ℕ
  columns = length (columns_of dims k)

  nonzero : Nonzero w
  nonzero = (pos_of_ne-zero (made-by s dims k w h c e).word, small)

  ready : (i : ℕ) → i < k → Drawable (dimension_at dims i).distribution
  ready = drawable s dims k w h (accepted s.slots dims k h (made-by s dims k w h c e).asked).0 held

  -- where no fit is made
  pub without-fit : fits ≡ false → (j : ℕ) → j < k → DrawnFrom (moved_of j w) (dimension_at dims j).distribution (get_or c.value j empty_value)
  unfolding candidate_of
  without-fit f j l = all-drawn dims w nonzero k ready c j l (rw f at (made-by s dims k w h c e).is)

  module _ (f : fits ≡ true) where
    p : Draw (List Float)
    p = point_for view.training s.noise_variance s.n_candidates w

    given : from_point dims k p ≡ Ok c
    unfolding candidate_of p
    given = rw f at (made-by s dims k w h c e).is

    -- the choices come after the point's words
    pub choices-drawn : (j : ℕ) → j < k → continuous_of (dimension_at dims j).distribution ≡ false
        → DrawnFrom (moved_of (cond (is_ok fit) (s.n_candidates * columns) columns + (j - length (columns_of dims j))) w) (dimension_at dims j).distribution (get_or c.value j empty_value)
    unfolding p
    choices-drawn j l g =
        let u = unmade (after p.drawn) (walked_of (Some p.value) dims k p.next) c given in
        let next = point-moves view.training s.noise_variance s.n_candidates w in
        let drawn = point-drawn s dims k w nonzero ready view.training (view-columns s dims k w h (made-by s dims k w h c e).asked) in
        let z : Nonzero p.next = subst Nonzero (sym next) (moved-nonzero p.drawn w nonzero) in
        let m = j - length (columns_of dims j) in
        subst (λ (a : ℕ). DrawnFrom a (dimension_at dims j).distribution (get_or c.value j empty_value)) (ap (moved_of m) next ∙ moves-on p.drawn m w ∙ ap (λ (a : ℕ). moved_of (a + m) w) drawn)
        (subst (λ (d : Values). DrawnFrom (moved_of m p.next) (dimension_at dims j).distribution (get_or d.value j empty_value)) u.2 (choice-drawn dims p.next z k ready u.0 j l p.value g u.1))

    -- after a refused fit the others decode unit floats
    pub units-decoded : {r : Refusal} → fit ≡ Err r → (j : ℕ) → j < k → T (continuous_of (dimension_at dims j).distribution)
        → decode_of (dimension_at dims j) (unit_of (moved_of (suc (length (columns_of dims j))) w)) ≡ Ok (get_or c.value j empty_value)
    unfolding p point_for
    units-decoded {r} q j l t =
        let i = length (columns_of dims j) in
        let b : i < view.training.d = rw (view-columns s dims k w h (made-by s dims k w h c e).asked) (column-below dims k j l t) in
        let x = ap (λ (g : Result Model Refusal). get_or (point_by g view.training.d s.n_candidates w).value i nan) q
        ∙ grown-padded-at 20 (λ xs j. unit_of (moved_of (suc j) w)) view.training.d i b ∙ grown-at (λ xs j. unit_of (moved_of (suc j) w)) view.training.d i b in
        sym (ap (decode_of (dimension_at dims j)) x) ∙ from-point dims k p c given j l t
