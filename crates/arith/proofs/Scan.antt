-- The earliest maximum of a list: "strict > from minus infinity, so ties keep the earlier". A scan keeps the best value so far, from -infinity on, and takes the next one where it is above. Assumes nothing.
use Rattle.std.proofs.Common.{◌≡◌, ℕ, zero, suc, ◌<◌, Bool, true, false, cond, not, T, ◌⊎◌, List, get_or, sym, refl, subst, inl, inr, le_of_suc-le-suc, not-suc-le-zero, eq-or-lt_of_le, arith}
use lib.Ieee.{Float, nan, inf, lt, le, is_nan}
use Rattle.arith.specs.Bounds.{real}
use Rattle.arith.proofs.Tests.{either}
use Rattle.arith.proofs.Order.{le_of_not_lt, le_of_lt, le_trans, lt_of_le_of_lt, lt-irreflexive}

-- after n values of xs: the best one, and the place where it stands (0 while none is above -infinity)
unfoldable pub best_of : List Float → ℕ → Float
best_of xs zero = inf true
best_of xs (suc n) = cond (lt (best_of xs n) (get_or xs n nan)) (get_or xs n nan) (best_of xs n)

unfoldable pub best_at : List Float → ℕ → ℕ
unfolding best_of
best_at xs zero = 0
best_at xs (suc n) = cond (lt (best_of xs n) (get_or xs n nan)) n (best_at xs n)

-- b is at least each of the first n values of xs. Either it is -infinity, or it stands at j, and every value before j is below it.
pub record Best (xs : List Float) (n : ℕ) (b : Float) (j : ℕ) : Type 0 where
  pub number : real b
  pub most : (k : ℕ) → k < n → T (le (get_or xs k nan) b)
  pub first : (b ≡ inf true) ⊎ ((j < n) × (get_or xs j nan ≡ b) × ((k : ℕ) → k < j → T (lt (get_or xs k nan) b)))

-- what holds below n, and at n, holds below suc n
more : (P : ℕ → Type 0) (n : ℕ) → ((k : ℕ) → k < n → P k) → P n → (k : ℕ) → k < suc n → P k
more P n h p k l = elim (eq-or-lt_of_le (le_of_suc-le-suc l)) [ inl e ↦ subst P (sym e) p | inr q ↦ h k q ]

self : (x : Float) → T (not (lt x x))
self x = elim (either (lt x x)) [ inl h ↦ absurd (lt-irreflexive x h) | inr h ↦ h ]

pub best-more : (xs : List Float) (n : ℕ) (b : Float) (j : ℕ) → real (get_or xs n nan) → Best xs n b j
    → Best xs (suc n) (cond (lt b (get_or xs n nan)) (get_or xs n nan) b) (cond (lt b (get_or xs n nan)) n j)
best-more xs n b j p h = go (lt b (get_or xs n nan)) refl
  where
    later : ((j < n) × (get_or xs j nan ≡ b) × ((k : ℕ) → k < j → T (lt (get_or xs k nan) b))) → ((j < suc n) × (get_or xs j nan ≡ b) × ((k : ℕ) → k < j → T (lt (get_or xs k nan) b)))
    later q = (let l = q.0 in omega arith, q.1, q.2)

    go : (t : Bool) → lt b (get_or xs n nan) ≡ t → Best xs (suc n) (cond t (get_or xs n nan) b) (cond t n j)
    go true e =
        let x = get_or xs n nan in
        let l : T (lt b x) = subst T (sym e) tt in
        record {
          number = p;
          most = more (λ (k : ℕ). T (le (get_or xs k nan) x)) n (λ k q. le_trans (get_or xs k nan) b x (h.most k q) (le_of_lt b x l)) (le_of_not_lt x x p p (self x));
          first = inr (omega arith, refl, λ k q. lt_of_le_of_lt (get_or xs k nan) b x (h.most k q) l);
        }
    go false e =
        let x = get_or xs n nan in
        record {
          number = h.number;
          most = more (λ (k : ℕ). T (le (get_or xs k nan) b)) n h.most (le_of_not_lt b x h.number p (subst (λ (t : Bool). T (not t)) (sym e) tt));
          first = elim h.first [ inl q ↦ inl q | inr q ↦ inr (later q) ];
        }

pub best_none : (xs : List Float) → Best xs 0 (inf true) 0
best_none xs = record { number = unfold is_nan in tt; most = λ k l. absurd (not-suc-le-zero l); first = inl refl }

pub best : (xs : List Float) (n : ℕ) → ((k : ℕ) → k < n → real (get_or xs k nan)) → Best xs n (best_of xs n) (best_at xs n)
unfolding best_of best_at
best xs zero p = best_none xs
best xs (suc n) p = best-more xs n (best_of xs n) (best_at xs n) (p n (omega arith)) (best xs n (λ k l. p k (omega arith)))
