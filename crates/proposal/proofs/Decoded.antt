-- What a new trial with a model stores: the decoding of the earliest point drawn whose expected improvement is at least every other's. Assumes nothing.
use Prim.Native.Nat.{ℕ, ◌+◌, ◌*◌, ◌<◌}
use mathlib.Core.Path.{◌≡◌, sym, ap, ◌∙◌, subst}
use mathlib.Core.Bool.{Bool, ◌&&◌, cond}
use mathlib.Core.List.{List}
use lib.Dec.{T, leb}
use lib.ListN.{length, get_or, replicate, length-replicate}
use lib.Ieee.{Float, nan, binary64, of_bits}
use lib.Ieee.Bits.{is_true}
use Rattle.distribution.specs.Shape.{continuous_of}
use Rattle.arith.specs.Lists.{padded}
use Rattle.arith.proofs.Lists.{padded-at, grown-length}
use Rattle.rng_util.specs.Draws.{unit_of}
use Rattle.rng_util.specs.Generator.{stream_of}
use Rattle.distribution.specs.declared.ParamValue.{ParamValue}
use Rattle.rng_util.specs.declared.Draw.{Draw}
use Rattle.rng_util.specs.Generator.{moved_of}
use Rattle.std.specs.Prelude.{Some, None, Result, Ok}
use Rattle.refusal.specs.declared.Refusal.{Refusal}
use Rattle.gp_model.specs.declared.Model.{Model}
use Rattle.search.specs.Earliest.{drawn_of, EarliestHighest}
use Rattle.search.specs.Search.{score_of, optimum_of}
use Rattle.search.proofs.Earliest.{earliest}
use Rattle.dimensions.specs.declared.DimensionInfo.{DimensionInfo}
use Rattle.history_view.specs.declared.View.{View}
use Rattle.dimensions.specs.Dimensions.{dimension_at, columns_of}
use Rattle.history_view.specs.View.{seen_of}
use Rattle.settings.specs.declared.Settings.{Settings}
use Rattle.proposal.specs.Points.{fit_for, search_point, point_for}
use Rattle.proposal.specs.Proposal.{after, from_point, candidate_of, compute_candidate_of}
use Rattle.dimensions.specs.Empty.{empty_value}
use Rattle.proposal.specs.Values.{Values, decode_of, undrawn, step_of, walked_of}
use Rattle.proposal.proofs.Draws.{point-is}
use Rattle.proposal.proofs.Moving.{model-columns}
use Rattle.proposal.proofs.Numbers.{made-by}
use Rattle.proposal.proofs.Ranges.{column-below}
use Rattle.proposal.proofs.Walk.{unmade, walked-in}
use Rattle.proposal.proofs.WordCount.{view-columns}

-- ---- a walk's values

-- the values of the continuous dimensions are the decoding of a point
abbrev pub Decodes : List DimensionInfo → ℕ → List ParamValue → List Float → Type 0
Decodes dims k values point =
    (j : ℕ) → j < k → T (continuous_of (dimension_at dims j).distribution) → decode_of (dimension_at dims j) (get_or point (length (columns_of dims j)) nan) ≡ Ok (get_or values j empty_value)

step-decoded : (d : DimensionInfo) (u : Float) (w : ℕ) (r : Draw ParamValue) → T (continuous_of d.distribution) → step_of d (Some u) w ≡ Ok r → decode_of d u ≡ Ok r.value
unfolding step_of
step-decoded d u w r c e =
    let m = unmade (undrawn w) (decode_of d u) r (rw (is_true (continuous_of d.distribution) c) at e) in
    m.1 ∙ ap (λ (x : Draw ParamValue). Ok x.value) m.2

pub from-point : (dims : List DimensionInfo) (k : ℕ) (p : Draw (List Float)) (c : Values) → from_point dims k p ≡ Ok c → Decodes dims k c.value p.value
from-point dims k p c e j l t =
    let u = unmade (after p.drawn) (walked_of (Some p.value) dims k p.next) c e in
    let s = (walked-in (Some p.value) dims p.next k u.0 u.1).values j l in
    step-decoded (dimension_at dims j) (get_or p.value (length (columns_of dims j)) nan) (moved_of s.before.drawn p.next) s.draw t s.is
    ∙ ap Ok (sym s.value ∙ ap (λ (d : Values). get_or d.value j empty_value) u.2)

-- of a point with a coordinate for each of them, in an array
from-array : (dims : List DimensionInfo) (k : ℕ) (values : List ParamValue) (x point : List Float) → Decodes dims k values x → x ≡ padded 20 point → length point ≡ length (columns_of dims k) → Decodes dims k values point
from-array dims k values x point f e n j l c =
    sym (ap (decode_of (dimension_at dims j)) (ap (λ (y : List Float). get_or y (length (columns_of dims j)) nan) e ∙ padded-at 20 point (length (columns_of dims j)) (subst (λ (m : ℕ). length (columns_of dims j) < m) (sym n) (column-below dims k j l c))))
    ∙ f j l c

-- ---- the best point

-- the values decode the best point drawn; d is how many of them are continuous
pub record DecodesBest (dims : List DimensionInfo) (k candidates w : ℕ) (m : Model) (values : List ParamValue) (d : ℕ) : Type 0 where
  pub index : ℕ
  pub best : EarliestHighest (λ i. score_of m (drawn_of d (stream_of (candidates * d) w) i)) candidates index
  pub decoded : Decodes dims k values (drawn_of d (stream_of (candidates * d) w) index)

pub record StoresEarliest (dims : List DimensionInfo) (k candidates w : ℕ) (m : Model) (values : List ParamValue) (d : ℕ) : Type 0 where
  pub none : candidates ≡ 0 → Decodes dims k values (replicate d (of_bits binary64 0x3fe0000000000000))
  pub found : 0 < candidates → DecodesBest dims k candidates w m values d

module _ (s : Settings) (dims : List DimensionInfo) (k w : ℕ) (h : List ℕ) where
  abbrev view : View
  view = seen_of s.slots s.n_startup_trials dims k h

  abbrev fit : Result Model Refusal
  fit = fit_for view.training s.noise_variance

  module _ (c : Values) (e : compute_candidate_of s dims k w h ≡ Ok c) (made : T (view.reached && leb 1 view.training.d)) (m : Model) (f : fit ≡ Ok m) where
    -- the point is the search's
    searched : Decodes dims k c.value (optimum_of m s.n_candidates w).x
    unfolding candidate_of
    searched =
        from-point dims k (search_point m view.training.d s.n_candidates w) c
        (sym (ap (λ (b : Bool). cond b (from_point dims k (point_for view.training s.noise_variance s.n_candidates w)) (walked_of None dims k w)) (is_true (view.reached && leb 1 view.training.d) made)
        ∙ ap (from_point dims k) (point-is view.training s.noise_variance s.n_candidates w (Ok m) f))
        ∙ (made-by s dims k w h c e).is)

    pub stores-earliest : StoresEarliest dims k s.n_candidates w m c.value (length (columns_of dims k))
    stores-earliest =
        let a = earliest m s.n_candidates w in
        let x = (optimum_of m s.n_candidates w).x in
        let v = searched in
        let d = m.d in
        let q = model-columns view.training s.noise_variance m f ∙ view-columns s dims k w h (made-by s dims k w h c e).asked in
        subst (StoresEarliest dims k s.n_candidates w m c.value) q (record {
          none = λ z. from-array dims k c.value x (replicate d (of_bits binary64 0x3fe0000000000000)) v (a.none z) (length-replicate d (of_bits binary64 0x3fe0000000000000) ∙ q);
          found = λ z. let b = a.found z in record {
            index = b.index;
            best = b.best;
            decoded = from-array dims k c.value x (drawn_of d (stream_of (s.n_candidates * d) w) b.index) v b.point (grown-length (λ xs j. unit_of (get_or (stream_of (s.n_candidates * d) w) (b.index * d + j) 0)) d ∙ q);
          };
        })
