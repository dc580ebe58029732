-- The scores of eight points side by side: each lane's is the plain score of its point. Assumes nothing.
use Rattle.std.specs.Prelude.{Ok}
use mathlib.Core.Path.{◌≡◌, refl, sym, ap, ◌∙◌}
use mathlib.Core.Logic.{inl, inr}
use mathlib.Core.List.{List}
use Prim.Native.Nat.{ℕ, ◌-◌, ◌*◌, ◌≤◌, ◌<◌}
use native.Mathlib.Nat.{eq-zero-or-pos}
use native.Mathlib.Omega.{arith}
use borrow.Author.Tests.{le-leb}
use lib.IntN.{pos}
use lib.ListN.{length, get_or, take, get_or-replicate}
use lib.Seq.{ext_get_or, get_or-take, length-take-le}
use lib.Ieee.{Float, nan, binary64, sub, mul, of_bits, of_int}
use Rattle.acquisition.specs.Improvement.{expected_improvement_of}
use Rattle.arith.specs.Choice.{positive_part}
use Rattle.arith.specs.Lists.{padded}
use Rattle.arith.specs.Outcome.{value_of}
use Rattle.root.specs.Sqrt.{sqrt_of}
use Rattle.arith.specs.Sums.{sum_over, products}
use Rattle.arith.proofs.Lists.{grown-at, grown-length, padded-at, padded-length, filled-past}
use Rattle.factor.specs.Solve.{solution_of}
use Rattle.lanes.specs.Kernels.{kernel_rows_of}
use Rattle.lanes.specs.Posteriors.{posterior_sums_of, sums_of}
use Rattle.lanes.specs.Rows.{cell, eight_of, lane_of, lanes_of, rows_of}
use Rattle.lanes.specs.Solving.{solutions_of}
use Rattle.lanes.specs.Sums.{dots_of, dots_each_of}
use Rattle.lanes.proofs.KernelRow.{sum_same}
use Rattle.lanes.proofs.Rows.{eight-at, eight-same, lanes_at, row_at, row-past}
use Rattle.gp_model.specs.Kernels.{row_of, similarity_of}
use Rattle.prediction.specs.Predict.{kernel_vector_of, posterior_mean_of, posterior_std_of}
use Rattle.search.specs.Search.{parts_of, score_of}

-- a dot product by its terms
products-take : (xs ys : List Float) (n : ℕ) → length xs ≡ n → products xs (take n ys) ≡ sum_over n (λ i. mul binary64 (get_or xs i nan) (get_or ys i nan))
products-take xs ys n e = rw e (sum_same n _ _ (λ i h. rw (get_or-take n ys i nan h)))

module _ (x ls chol alpha : List Float) (best : Float) (n d : ℕ) (c : List (List Float)) (top : n ≤ 100) (wide : d ≤ 20) (rows : n * d ≤ length x) (scales : d ≤ length ls) (weights : n ≤ length alpha) where
  -- the kernel vectors side by side, and point p's alone
  abbrev beside : List (List Float)
  beside = rows_of (kernel_rows_of c x n d (take d ls))

  abbrev alone : ℕ → List Float
  alone p = kernel_vector_of x n d (take d ls) (lane_of c d p)

  alone-length : (p : ℕ) → length (alone p) ≡ n
  alone-length p = grown-length (λ xs i. similarity_of (lane_of c d p) (row_of x d i) (take d ls)) n

  pub sums-known : posterior_sums_of c x n (take d ls) chol alpha ≡ Ok (sums_of beside chol alpha n)
  unfolding posterior_sums_of
  sums-known = rw (length-take-le d ls scales, le-leb n 100 top, le-leb d 20 wide, le-leb (n * d) (length x) rows, le-leb n (length alpha) weights)

  kernel-cell : (i p : ℕ) → i < n → p < 8 → cell beside i p ≡ get_or (alone p) i nan
  unfolding similarity_of
  kernel-cell i p h g = eight-at _ (row_at _ n i h) p g ∙ sym (grown-at (λ xs i. similarity_of (lane_of c d p) (row_of x d i) (take d ls)) n i h)

  kernel-past : (i p : ℕ) → n ≤ i → i < 100 → p < 8 → cell beside i p ≡ of_bits binary64 0
  kernel-past i p h t g =
      ap (λ (r : List Float). get_or r p nan) (row-past (kernel_rows_of c x n d (take d ls)) i (rw (grown-length _ n) h) t)
      ∙ get_or-replicate 8 p (of_bits binary64 0) nan g

  kernel-lane : (p : ℕ) → p < 8 → lane_of beside 100 p ≡ padded 100 (alone p)
  kernel-lane p g =
      let f : length (lane_of beside 100 p) ≡ 100 = grown-length (λ xs i. cell beside i p) 100 in
      ext_get_or nan (lane_of beside 100 p) (padded 100 (alone p)) (f ∙ sym (padded-length 100 (alone p) (rw (alone-length p) top)))
      (λ i h. let t : i < 100 = omega arith in
      grown-at (λ xs i. cell beside i p) 100 i t
      ∙ elim (eq-zero-or-pos (n - i)) [
        | inl z ↦ (let l : n ≤ i = omega arith in kernel-past i p l t g ∙ sym (filled-past (of_bits binary64 0) 100 (alone p) i nan (rw (alone-length p) l) t))
        | inr z ↦ (let l : i < n = omega arith in kernel-cell i p l g ∙ sym (padded-at 100 (alone p) i (rw (alone-length p) l)))
      ])

  mean-lane : (p : ℕ) → p < 8 → get_or (dots_each_of beside alpha n) p nan ≡ posterior_mean_of alpha n (alone p)
  unfolding posterior_mean_of
  mean-lane p g =
      eight-at (λ q. sum_over n (λ i. mul binary64 (cell beside i q) (get_or alpha i nan))) refl p g
      ∙ sum_same n _ _ (λ i h. rw (kernel-cell i p h g))
      ∙ sym (products-take (alone p) alpha n (alone-length p))

  product-lane : (p : ℕ) → p < 8 → get_or (dots_of beside (solutions_of chol beside n) n) p nan ≡ products (alone p) (take n (solution_of chol (padded 100 (alone p)) n))
  product-lane p g =
      let v = solution_of chol (padded 100 (alone p)) n in
      let solved : (i : ℕ) → i < n → cell (rows_of (lanes_of (λ q. solution_of chol (lane_of beside 100 q) n) n)) i p ≡ get_or v i nan =
      (λ i h. lanes_at (λ q. solution_of chol (lane_of beside 100 q) n) n i p h g ∙ ap (λ (b : List Float). get_or (solution_of chol b n) i nan) (kernel-lane p g)) in
      eight-at (λ q. sum_over n (λ i. mul binary64 (cell beside i q) (cell (rows_of (lanes_of (λ q. solution_of chol (lane_of beside 100 q) n) n)) i q))) refl p g
      ∙ sum_same n _ (λ i. mul binary64 (get_or (alone p) i nan) (get_or v i nan)) (λ i h. rw (kernel-cell i p h g, solved i h))
      ∙ sym (products-take (alone p) v n (alone-length p))

  pub score-lanes : eight_of (λ p. value_of (expected_improvement_of (get_or (dots_each_of beside alpha n) p nan) (sqrt_of (positive_part (sub binary64 (of_int binary64 (pos 1)) (get_or (dots_of beside (solutions_of chol beside n) n) p nan)))) best))
      ≡ eight_of (λ p. score_of (parts_of x ls chol alpha best n d) (lane_of c d p))
  unfolding score_of posterior_std_of
  score-lanes = eight-same _ _ (λ p g. rw (mean-lane p g, product-lane p g))
