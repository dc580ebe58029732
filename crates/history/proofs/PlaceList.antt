-- One more place behind those of a list, and the columns. Assumes nothing.
use Prim.Native.Nat.{ℕ, ◌+◌, ◌≤◌, ◌<◌}
use native.Mathlib.Numerals.{add-one}
use native.Mathlib.Omega.{arith}
use mathlib.Core.Path.{◌≡◌, refl}
use mathlib.Core.Bool.{Bool, true, false}
use mathlib.Core.List.{List, [], ◌∷◌}
use lib.ListN.{length, take, length-append}
use Rattle.distribution.specs.Shape.{continuous_of}
use Rattle.arith.specs.Lists.{places_of}
use Rattle.arith.proofs.Lists.{filled-set-at, filled-take, filled-length, places-length}
use Rattle.history.specs.declared.Places.{Places}
use Rattle.dimensions.specs.declared.DimensionInfo.{DimensionInfo}
use Rattle.dimensions.specs.Dimensions.{dimension_at, columns_of}
use Rattle.history.specs.Places.{places_in, with_place}

-- places below n where a test holds, and place n
module _ (p : Places) (n : ℕ) (t : ℕ → Bool) (few : n < 100) (e : p ≡ places_in (places_of n t)) where
  -- there is room for it
  pub places-room : p.count < 100
  places-room = let l = places-length n t in rw e (omega arith)

  -- the test holds of it
  pub places-then : (q : Places) → t n ≡ true → q ≡ with_place p.at p.count n true → q ≡ places_in (places_of (n + 1) t)
  unfolding places_of
  places-then q h f =
      let xs = places_of n t in
      let l : length xs < 100 = (let k = places-length n t in omega arith) in
      rw (add-one, h, f, e, filled-set-at 0 100 xs (length xs) n refl l, length-append xs (n ∷ []))

  -- it does not
  pub places-else : t n ≡ false → p ≡ places_in (places_of (n + 1) t)
  unfolding places_of
  places-else h = rw (add-one, h, e)

-- ---- of the columns

pub columns-few : (dims : List DimensionInfo) (k : ℕ) → length (columns_of dims k) ≤ k
unfolding columns_of
columns-few dims k = places-length k (λ j. continuous_of (dimension_at dims j).distribution)

-- ---- as the code lends them

pub places-lent : (p : Places) (xs : List ℕ) → p ≡ places_in xs → take p.count p.at ≡ xs
places-lent p xs e = rw e (filled-take 0 100 xs)

-- at most 100 of them are within their array
pub places-fit : (p : Places) (xs : List ℕ) → p ≡ places_in xs → length xs ≤ 100 → (p.count ≤ 100) × (length p.at ≡ 100)
places-fit p xs e h = rw e (h, filled-length 0 100 xs h)
