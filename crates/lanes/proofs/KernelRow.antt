-- The kernel by the squared distances of eight points and a row is the kernel of each point and the row. Assumes nothing.
use mathlib.Core.Path.{◌≡◌, refl, sym, ap, ◌∙◌}
use mathlib.Core.List.{List}
use Prim.Native.Nat.{ℕ, zero, suc, ◌+◌, ◌*◌, ◌≤◌, ◌<◌}
use native.Mathlib.Omega.{arith}
use borrow.Author.Tests.{eq-eqb}
use lib.IntN.{pos}
use lib.ListN.{length, get_or, take, drop, length-drop}
use lib.Seq.{length-take-le, get_or-take, get_or-drop}
use lib.Ieee.{Float, nan, binary64, of_int}
use Rattle.arith.specs.Outcome.{value_of}
use Rattle.arith.specs.Sums.{sum_over}
use Rattle.arith.proofs.Lists.{grown-at, grown-length}
use Rattle.kernel.specs.Matern.{squared_distance_of, at_of, matern52_of}
use Rattle.lanes.specs.Rows.{cell, eight_of, lane_of}
use Rattle.lanes.specs.Kernels.{distance_term}
use Rattle.lanes.proofs.Rows.{eight-at, eight-same}

-- sums of equal terms
pub sum_same : (n : ℕ) (s t : ℕ → Float) → ((i : ℕ) → i < n → s i ≡ t i) → sum_over n s ≡ sum_over n t
unfolding sum_over
sum_same zero s t h = refl
sum_same (suc n) s t h = rw (sum_same n s t (λ i l. h i (omega arith)), h n (omega arith))

-- an element of a row
pub row_read : (x : List Float) (d i j : ℕ) → j < d → get_or (take d (drop (i * d) x)) j nan ≡ get_or x (i * d + j) nan
row_read x d i j h = get_or-take d (drop (i * d) x) j nan h ∙ get_or-drop (i * d) x j nan

module _ (c : List (List Float)) (x : List Float) (d : ℕ) (l : List Float) (i : ℕ) (fit : i * d + d ≤ length x) (width : length l ≡ d) where
  -- the squared distance of point p
  distance-lane : (p : ℕ) → squared_distance_of (lane_of c d p) (take d (drop (i * d) x)) l ≡ sum_over d (distance_term c x d l i p)
  distance-lane p =
      rw (grown-length (λ xs j. cell c j p) d)
      (sum_same d _ _ (λ j h. rw (grown-at (λ xs j. cell c j p) d j h, row_read x d i j h)))

  kernel-lane : (p : ℕ) → value_of (at_of (sum_over d (distance_term c x d l i p)) (of_int binary64 (pos 1))) ≡ value_of (matern52_of (lane_of c d p) (take d (drop (i * d) x)) l (of_int binary64 (pos 1)))
  unfolding matern52_of
  kernel-lane p =
      let m : length (lane_of c d p) ≡ d = grown-length (λ xs j. cell c j p) d in
      let r : length (take d (drop (i * d) x)) ≡ d = length-take-le d (drop (i * d) x) (rw length-drop (omega arith)) in
      rw (eq-eqb _ _ (m ∙ sym r), eq-eqb _ _ (m ∙ sym width)) (ap (λ (s : Float). value_of (at_of s (of_int binary64 (pos 1)))) (sym (distance-lane p)))

  pub kernel-row : (s r : List Float) → s ≡ eight_of (λ p. sum_over d (distance_term c x d l i p)) → r ≡ eight_of (λ p. value_of (at_of (get_or s p nan) (of_int binary64 (pos 1))))
      → r ≡ eight_of (λ p. value_of (matern52_of (lane_of c d p) (take d (drop (i * d) x)) l (of_int binary64 (pos 1))))
  kernel-row s r e q = q ∙ eight-same _ _ (λ p h. ap (λ (t : Float). value_of (at_of t (of_int binary64 (pos 1)))) (eight-at _ e p h) ∙ kernel-lane p)
