-- Places judged by a part of the dimensions' array are judged by the array. Assumes nothing.
use Rattle.std.proofs.Common.{◌≡◌, ℕ, ◌≤◌, Bool, true, eqb, leb, le-leb, not, refl, Option, Some, None, sym, List, length, get_or, take, ap, arith, ◌∙◌}
use mathlib.Core.Bool.{◌&&◌, ◌||◌}
use Rattle.std.proofs.lemmas.List.{get_or-take}
use Rattle.arith.specs.Lists.{every}
use Rattle.arith.proofs.Lists.{every-same}
use Rattle.dimensions.specs.declared.DimensionInfo.{DimensionInfo}
use Rattle.dimensions.specs.Dimensions.{no_dimension, dimension_at, dimensions_ok}
use Rattle.distribution.specs.Range.{in_range}
use Rattle.distribution.specs.declared.ParamValue.{ParamValue}
use Rattle.dimensions.specs.Empty.{empty_value}
use Rattle.std.specs.List.{list_all, zip}
use Rattle.std.proofs.lemmas.Slice.Zip.{get_or-zip, length-zip}
use Rattle.arith.proofs.Passing.{all_every}
use Rattle.sampler_state.specs.declared.Place.{Place}
use Rattle.sampler_state.specs.State.{empty_place, place_at, stored_at, progress_ok, place_ok, trials_once, sampler_ok}
use Rattle.sampler_state.specs.declared.Sampler.{Sampler}
use Rattle.arith.proofs.Tests.{taken as taken_test}
use Rattle.dimensions.proofs.Ok.{dimensions-ok}
use Rattle.settings.specs.Settings.{settings_ok}

-- the values beside their dimensions
values_zip : (ds : List DimensionInfo) (vs : List ParamValue) → length ds ≤ length vs
    → list_all (λ (p : DimensionInfo × ParamValue). in_range p.0.distribution p.1) (zip ds vs) ≡ every (length ds) (λ j. in_range (dimension_at ds j).distribution (get_or vs j empty_value))
values_zip ds vs h =
    let test : DimensionInfo × ParamValue → Bool = λ p. in_range p.0.distribution p.1 in
    let d : DimensionInfo × ParamValue = (no_dimension, empty_value) in
    let e = length-zip ds vs in
    all_every test (zip ds vs) d (length ds) (omega arith)
    ∙ every-same (length ds) _ _ (λ i l. ap test (get_or-zip ds vs i d l (omega arith)))

pub progress_zip : (ds : List DimensionInfo) (p : Place) → length ds ≤ length p.values → 1 ≤ p.next_dim → p.next_dim ≤ length ds
    → list_all (λ (q : DimensionInfo × ParamValue). in_range q.0.distribution q.1) (zip ds p.values) ≡ progress_ok ds (length ds) p
progress_zip ds p h a b = rw (le-leb 1 p.next_dim a, le-leb p.next_dim (length ds) b) (values_zip ds p.values h)

place_front : (a : Bool) (ds : List DimensionInfo) (n : ℕ) (p : Option Place) → place_ok a (take n ds) n p ≡ place_ok a ds n p
unfolding place_ok
place_front a ds n None = refl
place_front a ds n (Some p) =
    ap (λ (b : Bool). a && (leb 1 p.next_dim && leb p.next_dim n && b))
    (every-same n (λ j. in_range (dimension_at (take n ds) j).distribution (stored_at p j)) (λ j. in_range (dimension_at ds j).distribution (stored_at p j))
    (λ i h. ap (λ (d : DimensionInfo). in_range d.distribution (stored_at p i)) (get_or-take n ds i _ h)))

places_front : (a : Bool) (ds : List DimensionInfo) (n : ℕ) (front : List DimensionInfo) → front ≡ take n ds → length front ≡ n → (ps : List (Option Place)) → length ps ≡ 32
    → list_all (place_ok a front (length front)) ps ≡ every 32 (λ i. place_ok a ds n (place_at ps i))
places_front a ds n front e h ps l =
    ap (λ (k : ℕ). list_all (place_ok a front k) ps) h
    ∙ ap (λ (fs : List DimensionInfo). list_all (place_ok a fs n) ps) e
    ∙ all_every (place_ok a (take n ds) n) ps empty_place 32 l
    ∙ every-same 32 (λ i. place_ok a (take n ds) n (place_at ps i)) (λ i. place_ok a ds n (place_at ps i)) (λ i l. place_front a ds n (place_at ps i))

regroup : (a b d p e t : Bool) → (a && b && p) ≡ true → d ≡ true → (a && b && d && p && e && t) ≡ (e && t)
regroup a b d p e t h k = grind arith

pub dimensions_few : (ds : List DimensionInfo) (n : ℕ) → dimensions_ok ds n ≡ true → n ≤ 20
dimensions_few ds n e = (dimensions-ok ds n (taken_test e)).0

-- where what comes before is good, the places decide
pub sampler_places : (s : Sampler) (front : List DimensionInfo) → front ≡ take s.dimensions.count s.dimensions.list → length front ≡ s.dimensions.count → length s.places ≡ 32
    → (settings_ok s.settings && not (eqb s.word 0) && (not s.active || leb 1 s.dimensions.count)) ≡ true → dimensions_ok s.dimensions.list s.dimensions.count ≡ true
    → sampler_ok s ≡ (list_all (place_ok s.active front (length front)) s.places && trials_once s.places)
unfolding sampler_ok
sampler_places s front e n m h k =
    regroup (settings_ok s.settings) (not (eqb s.word 0)) (dimensions_ok s.dimensions.list s.dimensions.count) (not s.active || leb 1 s.dimensions.count) _ (trials_once s.places) h k
    ∙ sym (ap (λ (b : Bool). b && trials_once s.places) (places_front s.active s.dimensions.list s.dimensions.count front e n s.places m))
