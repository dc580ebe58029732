-- A well-formed sampler with its word, a place, its phase or its dimensions changed is well-formed. Assumes nothing.
use Rattle.std.specs.Prelude.{Option, Ok, Some, None}
use Prim.Native.Nat.{ℕ, ◌+◌, ◌<◌}
use native.Mathlib.Omega.{arith}
use mathlib.Core.Path.{◌≡◌, refl, sym, ap, ◌∙◌, subst}
use mathlib.Core.Bool.{Bool, true, false, not, ◌&&◌}
use mathlib.Core.List.{List}
use mathlib.Core.Logic.{inl, inr}
use lib.Dec.{T, T_not, eqb_refl, leb, le→leb}
use lib.ListN.{set, length-set}
use lib.Seq.{get_or-set_same, get_or-set_other}
use lib.Ieee.{Float, binary64, fits, of_bits, to_bits}
use lib.Ieee.Bits.{of_bits-fits}
use lib.Ieee.Fits.{and_i, and_l, and_r}
use Rattle.arith.specs.Lists.{every}
use Rattle.arith.proofs.Lists.{each-every}
use Rattle.arith.proofs.Tests.{untaken, equal_or_not, or_left}
use Rattle.rng_util.proofs.Nonzero.{Nonzero, nonzero-test}
use Rattle.distribution.specs.declared.Distribution.{Distribution}
use Rattle.distribution_words.specs.RoundTrip.{Held}
use Rattle.distribution.specs.Shape.{shape_of}
use Rattle.encoding.specs.Bounds.{InternalBounds, bounds_of}
use Rattle.encoding.proofs.EndLaws.{HasEnds, bounds, choice-bounds}
use Rattle.dimensions.specs.declared.DimensionInfo.{DimensionInfo}
use Rattle.dimensions.specs.Dimensions.{bounds_are, same_bits, with_bounds, no_dimension, dimension_at, dimension_of, dimension_ok, dimensions_ok}
use Rattle.history_view.proofs.Values.{floats-fit}
use Rattle.proposal.proofs.Ranges.{Formed}
use Rattle.sampler_state.specs.declared.Place.{Place}
use Rattle.sampler_state.specs.declared.Sampler.{Sampler}
use Rattle.sampler_laws.specs.Calls.{with_word, with_place, activated, with_dimension}
use Rattle.sampler_laws.specs.Laws.{Typed}
use Rattle.sampler_state.specs.State.{place_at, progress_ok, place_ok}
use Rattle.sampler_laws.proofs.Parts.{Checked, Well, ready}
use Rattle.sampler_state.proofs.Held.{Once, each_set}

-- ---- one place

module _ (active : Bool) (dims : List DimensionInfo) (k : ℕ) where
  pub free-ok : (p : Option Place) → p ≡ None → T (place_ok active dims k p)
  unfolding place_ok
  free-ok p e = rw e tt

  pub taken-ok : (p : Place) → T active → T (progress_ok dims k p) → T (place_ok active dims k (Some p))
  unfolding place_ok
  taken-ok p a v = and_i active (progress_ok dims k p) a v

  pub ok-taken : (p : Place) → T (place_ok active dims k (Some p)) → T active × T (progress_ok dims k p)
  unfolding place_ok
  ok-taken p t = (and_l active (progress_ok dims k p) t, and_r active (progress_ok dims k p) t)

  -- without an active sampler a place is free
  free : (p : Option Place) → active ≡ false → T (place_ok active dims k p) → p ≡ None
  free (Some q) e t = absurd (T_not active (untaken e) (ok-taken q t).0)
  free None e t = refl

-- ---- the dimension of a distribution

-- with the bounds that the distribution has
bounds-formed : (d : Distribution) (lo hi : Float) (b : InternalBounds) → bounds_of d ≡ b → with_bounds d b ≡ record { distribution = d; lo = lo; hi = hi } → T (bounds_are b lo hi)
    → Held d → T (fits binary64 lo) → T (fits binary64 hi) → Formed (dimension_of d)
bounds-formed d lo hi b e q t h l m =
    subst Formed (sym (ap (with_bounds d) e ∙ q)) (record { ok = unfold dimension_ok in subst (λ (x : InternalBounds). T (bounds_are x lo hi)) (sym e) t; held = h; lo-fits = l; hi-fits = m })

same_bits_lem : (lo hi : Float) → T (same_bits lo lo && same_bits hi hi)
same_bits_lem lo hi = and_i (same_bits lo lo) (same_bits hi hi) (eqb_refl (to_bits binary64 lo)) (eqb_refl (to_bits binary64 hi))

ends-formed : (d : Distribution) → Held d → {log : Bool} → HasEnds log (bounds_of d) → Formed (dimension_of d)
ends-formed d h b = bounds-formed d b.lo b.hi (Ok (Some (b.lo, b.hi))) b.is refl (same_bits_lem b.lo b.hi) h b.rules.low_fits b.rules.high_fits

pub dimension-formed : (d : Distribution) → Held d → T (shape_of d) → Formed (dimension_of d)
dimension-formed (Distribution.Float d) h x = ends-formed (Distribution.Float d) h (bounds (Distribution.Float d) tt (floats-fit (Distribution.Float d) h) x)
dimension-formed (Distribution.Int d) h x = ends-formed (Distribution.Int d) h (bounds (Distribution.Int d) tt tt x)
dimension-formed (Distribution.Categorical d) h x =
    let z = of_bits binary64 0 in
    bounds-formed (Distribution.Categorical d) z z (Ok None) (choice-bounds d x) refl (same_bits_lem z z) h (of_bits-fits binary64 0) (of_bits-fits binary64 0)

-- ---- the sampler

module _ (s : Sampler) (g : Well s) where
  abbrev t : Typed s
  t = g.typed

  abbrev o : Checked s
  o = g.ok

  pub with-word : (w : ℕ) → Nonzero w → Well (with_word s w)
  with-word w h = record {
    typed = record { word = h.1; dimensions = t.dimensions; places = t.places; held = t.held; ends = t.ends };
    ok = record { settings = o.settings; word = untaken (nonzero-test w h); dimensions = o.dimensions; some = o.some; places = o.places; once = o.once };
  }

  pub with-place : (i : ℕ) (p : Option Place) → i < 32 → T (place_ok s.active s.dimensions.list s.dimensions.count p) → Once (set s.places i p) → Well (with_place s i p)
  with-place i p l k once = record {
    typed = record { word = t.word; dimensions = t.dimensions; places = length-set s.places i p ∙ t.places; held = t.held; ends = t.ends };
    ok = record {
      settings = o.settings;
      word = o.word;
      dimensions = o.dimensions;
      some = o.some;
      places = λ j n. each_set s.places t.places i l p (λ q. T (place_ok s.active s.dimensions.list s.dimensions.count q)) k j (o.places j n);
      once = once;
    };
  }

  all-free : s.active ≡ false → (i : ℕ) → i < 32 → place_at s.places i ≡ None
  all-free a i l = free s.active s.dimensions.list s.dimensions.count (place_at s.places i) a (o.places i l)

  -- discovery ended
  pub ended : s.active ≡ false → (s.dimensions.count ≡ 0 → ⊥) → Well (activated s)
  ended a n = record {
    typed = record { word = t.word; dimensions = t.dimensions; places = t.places; held = t.held; ends = t.ends };
    ok = record {
      settings = o.settings;
      word = o.word;
      dimensions = o.dimensions;
      some = le→leb 1 s.dimensions.count (omega arith);
      places = λ i l. free-ok true s.dimensions.list s.dimensions.count (place_at s.places i) (all-free a i l);
      once = o.once;
    };
  }

  -- one more dimension, while discovery goes on
  pub with-dimension : (trial : ℕ) (d : Distribution) → s.active ≡ false → s.dimensions.count < 20 → Formed (dimension_of d) → Well (with_dimension s trial d)
  with-dimension trial d a l f = record {
    typed = record {
      word = t.word;
      dimensions = length-set s.dimensions.list s.dimensions.count (dimension_of d) ∙ t.dimensions;
      places = t.places;
      held = λ j m. (all j m).held;
      ends = λ j m. ((all j m).lo-fits, (all j m).hi-fits);
    };
    ok = record {
      settings = o.settings;
      word = o.word;
      dimensions = ok;
      some = or_left (not s.active) (leb 1 (s.dimensions.count + 1)) (untaken a);
      places = λ i m. free-ok s.active dims (s.dimensions.count + 1) (place_at s.places i) (all-free a i m);
      once = o.once;
    };
  }
    where
      dims : List DimensionInfo
      dims = set s.dimensions.list s.dimensions.count (dimension_of d)

      all : (j : ℕ) → j < s.dimensions.count + 1 → Formed (dimension_at dims j)
      all j m = elim (equal_or_not j s.dimensions.count) [
        | inl e ↦ subst (λ (n : ℕ). Formed (dimension_at dims n)) (sym e) (subst Formed (sym (get_or-set_same s.dimensions.list s.dimensions.count (dimension_of d) no_dimension (rw t.dimensions l))) f)
        | inr n ↦ subst Formed (sym (get_or-set_other s.dimensions.list s.dimensions.count j (dimension_of d) no_dimension n)) ((ready s g).formed j (omega arith))
      ]

      ok : T (dimensions_ok dims (s.dimensions.count + 1))
      ok =
          unfold dimensions_ok in and_i (leb (s.dimensions.count + 1) 20) (every (s.dimensions.count + 1) (λ j. dimension_ok (dimension_at dims j))) (le→leb (s.dimensions.count + 1) 20 (omega arith))
          (each-every (s.dimensions.count + 1) (λ j. dimension_ok (dimension_at dims j)) (λ j m. (all j m).ok))
