-- The array of the backward solution: the start of z, then the unknowns that are known, then zeros. Assumes nothing.
use mathlib.Core.Path.{◌≡◌, refl, sym, ap, ◌∙◌}
use mathlib.Core.Bool.{Bool, true, false, cond}
use mathlib.Core.List.{List, [], ◌∷◌, ◌++◌, append-nil}
use Prim.Native.Nat.{ℕ, zero, suc, ◌+◌, ◌-◌, ◌≤◌, ◌<◌}
use native.Mathlib.Numerals.{add-one}
use native.Mathlib.Omega.{arith}
use borrow.Author.Tests.{le-leb, leb-true}
use lib.Dec.{leb}
use Rattle.std.specs.Prelude.{Result, Ok}
use Rattle.refusal.specs.declared.Refusal.{Refusal}
use lib.ListN.{length, get_or, set, take, length-append, length-take}
use lib.Seq.{take_all, take-suc, append_snoc, length-take-le, get_or_at, get_or-append-add, set_at, set-append_left}
use lib.Ieee.{Float, nan, binary64, sub, mul, div}
use Rattle.arith.specs.Lists.{padded}
use Rattle.arith.proofs.Lists.{padded-at, padded-length}
use Rattle.factor.specs.Triangle.{at, entry, less_of}
use Rattle.factor.specs.Solve.{forward_of, backward_of, solution_of, solve_of}
use Rattle.factor.proofs.Triangle.{less-same}

-- m unknowns are known
pub back-length : (l z : List Float) (n m : ℕ) → length (backward_of l z n m) ≡ m
unfolding backward_of
back-length l z n zero = refl
back-length l z n (suc m) = ap suc (back-length l z n m)

-- with no unknown known, the list is z
pub back_none : (l z : List Float) (n : ℕ) → length z ≡ n → z ≡ take n z ++ backward_of l z n 0
unfolding backward_of
back_none l z n h = sym (rw append-nil (take_all n z (omega arith)))

-- an array with zeros behind n elements
pub front_length : (x : List Float) (n : ℕ) → n ≤ 100 → x ≡ padded 100 (take n x) → length (take n x) ≡ n
front_length x n h e =
    let t : length (take n x) ≤ 100 = rw length-take (omega arith) in
    let whole : length x ≡ 100 = ap length e ∙ padded-length 100 (take n x) t in
    length-take-le n x (omega arith)

-- one product more: of the entry at p and the unknown at q
pub back_more : (l x : List Float) (i n : ℕ) {p q : ℕ} (s z : Float) → p ≡ at q i → q ≡ i + 1 + n → s ≡ less_of n (λ k. entry l (i + 1 + k) i) (λ k. get_or x (i + 1 + k) nan) z
    → sub binary64 s (mul binary64 (get_or l p nan) (get_or x q nan)) ≡ less_of (suc n) (λ k. entry l (i + 1 + k) i) (λ k. get_or x (i + 1 + k) nan) z
unfolding less_of
back_more l x i n s z hp hq hs = rw (hs, hp, hq)

module _ (places : ℕ) (z xs : List Float) (i : ℕ) (h : i < length z) where
  -- it stands in front of the unknowns
  back-split : take (suc i) z ++ xs ≡ take i z ++ get_or z i nan ∷ xs
  back-split = rw (take-suc z i nan h) (append_snoc (take i z) (get_or z i nan) xs)

  -- the last element of z that is left
  pub back-here : get_or (padded places (take (suc i) z ++ xs)) i nan ≡ get_or z i nan
  back-here =
      let f : length (take i z) ≡ i = length-take-le i z (omega arith) in
      rw back-split (padded-at places (take i z ++ get_or z i nan ∷ xs) i (rw (length-append, f) (omega arith)) ∙ get_or_at (take i z) (get_or z i nan) xs nan i f)

  -- the unknowns behind it
  pub back-after : (k : ℕ) → k < length xs → get_or (padded places (take (suc i) z ++ xs)) (i + 1 + k) nan ≡ get_or xs k nan
  back-after k g =
      let f : length (take (suc i) z) ≡ i + 1 = length-take-le (suc i) z h ∙ sym (add-one i) in
      padded-at places (take (suc i) z ++ xs) (i + 1 + k) (rw (length-append, f) (omega arith)) ∙ rw (sym f) (get_or-append-add (take (suc i) z) xs k nan)

  -- it is replaced by the next unknown
  pub back-set : (v : Float) → set (padded places (take (suc i) z ++ xs)) i v ≡ padded places (take i z ++ v ∷ xs)
  back-set v =
      let f : length (take i z) ≡ i = length-take-le i z (omega arith) in
      rw (back-split, set-append_left (take i z ++ get_or z i nan ∷ xs) _ i v (rw (length-append, f) (omega arith)), set_at (take i z) (get_or z i nan) xs v i f, length-append, length-append)

-- the next unknown, from those behind it
pub back-next : (l z x : List Float) (n m i : ℕ) (v : Float) → length z ≡ n → i + suc m ≡ n → x ≡ padded 100 (take (suc i) z ++ backward_of l z n m)
    → v ≡ div binary64 (less_of m (λ k. entry l (i + 1 + k) i) (λ k. get_or x (i + 1 + k) nan) (get_or x i nan)) (entry l i i) → set x i v ≡ padded 100 (take i z ++ backward_of l z n (suc m))
unfolding backward_of
back-next l z x n m i v hz hi hx hv =
    let h : i < length z = omega arith in
    let e : n - suc m ≡ i = omega arith in
    let xs = backward_of l z n m in
    let y = padded 100 (take (suc i) z ++ xs) in
    let same : less_of m (λ k. entry l (i + 1 + k) i) (λ k. get_or y (i + 1 + k) nan) (get_or z i nan) ≡ less_of m (λ k. entry l (i + 1 + k) i) (λ k. get_or xs k nan) (get_or z i nan) =
    less-same m (λ k. entry l (i + 1 + k) i) (λ k. get_or y (i + 1 + k) nan) (λ k. entry l (i + 1 + k) i) (λ k. get_or xs k nan) (get_or z i nan) (λ k g. refl) (λ k g. back-after 100 z xs i h k (rw (back-length l z n m) g)) in
    rw (hv, hx, e, back-here 100 z xs i h) (ap (λ (s : Float). set y i (div binary64 s (entry l i i))) same ∙ back-set 100 z xs i h _)

-- up to a hundred rows a solution is found
pub solution-found : (l b : List Float) (n : ℕ) → n ≤ 100 → solution_of l b n ≡ padded 100 (backward_of l (forward_of l b n) n n)
unfolding solution_of
solution-found l b n h = rw (le-leb n 100 h)

-- it fills its array
pub solve-length : (l b : List Float) (n : ℕ) → length (solution_of l b n) ≡ 100
unfolding solution_of
solve-length l b n = cond-length (leb n 100) refl
  where
    cond-length : (t : Bool) → leb n 100 ≡ t → length (padded 100 (cond t (backward_of l (forward_of l b n) n n) [])) ≡ 100
    cond-length true e = padded-length 100 (backward_of l (forward_of l b n) n n) (rw (back-length l (forward_of l b n) n n) (leb-true n 100 e))
    cond-length false e = padded-length 100 [] (omega arith)

-- and is the answer
pub solves : (l b : List Float) (n : ℕ) → n ≤ 100 → solve_of l b n ≡ Ok (solution_of l b n)
unfolding solve_of
solves l b n h = rw (le-leb n 100 h)

-- what is answered then is it
pub solved : (l b : List Float) (n : ℕ) (r : Result (List Float) Refusal) (x : List Float) → n ≤ 100 → r ≡ solve_of l b n → r ≡ Ok x → x ≡ solution_of l b n
solved l b n r x h e k = let s = solves l b n h in cc
