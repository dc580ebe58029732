-- Tests of a list's elements and of its places: all pass, the first that passes, how many pass. Assumes nothing.
use Rattle.std.proofs.Common.{◌≡◌, ℕ, zero, suc, ◌+◌, ◌<◌, ◌≤◌, Bool, true, false, cond, ltb, List, [], ◌∷◌, not, inl, inr, length, get_or, take, sym, refl, ap, ◌∙◌, subst, ltb-false, lt-ltb, add-one, arith, Some, None}
use Rattle.std.specs.Option.{unwrap_or}
use Rattle.std.proofs.lemmas.List.{take_all}
use mathlib.Core.Bool.{◌||◌, ◌&&◌}
use Rattle.std.proofs.lemmas.Bool.{cases_lt}
use Rattle.std.proofs.lemmas.Bool.Decides.{nat_tests}
use Rattle.std.proofs.lemmas.Option.{slice_get_within, get_or_from_slice_get, slice_get-get_or}
use Rattle.std.proofs.lemmas.List.Folds.{list_all_more, find_at}
use Rattle.std.proofs.lemmas.List.Sums.{position_or_len_is, count_by_more_no, count_by_more_yes}
use Rattle.std.specs.List.{range_with_len, list_all, list_any, find, count_by, position, position_or_len}
use Rattle.std.proofs.lemmas.List.FromFn.{length-range_with_len, get_or-range_with_len}
use native.Mathlib.Nat.{zero-add}
use lib.Ieee.Bits.{is_true}
use Rattle.arith.specs.Lists.{every, place_of, places_of}
use Rattle.arith.proofs.Lists.{every-same, place-most, place-before, place_found, places-next}

module _ {A : Type 0} (p : A → Bool) (xs : List A) (d : A) where
  -- the first i pass
  pub all_front : (i : ℕ) → i ≤ length xs → list_all p (take i xs) ≡ every i (λ j. p (get_or xs j d))
  unfolding every
  all_front zero h = refl
  all_front (suc i) h = rw (sym (add-one i), list_all_more p xs i d (omega arith), all_front i (omega arith))

  -- all pass
  pub all_every : (n : ℕ) → length xs ≡ n → list_all p xs ≡ every n (λ j. p (get_or xs j d))
  all_every n e = sym (ap (list_all p) (take_all n xs (omega arith))) ∙ all_front n (omega arith)

  -- the first that passes
  pub first_place : position_or_len p xs ≡ place_of (length xs) (λ j. p (get_or xs j d))
  first_place =
      let t : ℕ → Bool = λ j. p (get_or xs j d) in
      position_or_len_is p xs (place_of (length xs) t) d (place-most (length xs) t) (λ k h. place-before (length xs) t k h)
      (λ h. is_true (t (place_of (length xs) t)) (place_found (length xs) t h))

  -- the same as an option
  pub position_place : (n : ℕ) → length xs ≡ n → unwrap_or (position p xs) n ≡ place_of n (λ j. p (get_or xs j d))
  position_place n e = subst (λ (k : ℕ). unwrap_or (position p xs) k ≡ place_of k (λ j. p (get_or xs j d))) e (go (ltb (position_or_len p xs) (length xs)) refl)
    where
      go : (b : Bool) → ltb (position_or_len p xs) (length xs) ≡ b → unwrap_or (cond b (Some (position_or_len p xs)) None) (length xs) ≡ place_of (length xs) (λ j. p (get_or xs j d))
      go true l = first_place
      go false l =
          let m = ltb-false (position_or_len p xs) (length xs) l in
          let k = place-most (length xs) (λ j. p (get_or xs j d)) in
          let f = first_place in omega arith

  one_more : (i : ℕ) → i < length xs → (b : Bool) → p (get_or xs i d) ≡ b → count_by p (take (i + 1) xs) ≡ count_by p (take i xs) + cond b 1 0
  one_more i h true e = count_by_more_yes p xs i d h e
  one_more i h false e = let m = count_by_more_no p xs i d h e in omega arith

  count_front : (i : ℕ) → i ≤ length xs → count_by p (take i xs) ≡ length (places_of i (λ j. p (get_or xs j d)))
  count_front zero h = unfold places_of in refl
  count_front (suc i) h =
      let t : ℕ → Bool = λ j. p (get_or xs j d) in
      let e = one_more i (omega arith) (t i) refl in
      let f = count_front i (omega arith) in
      let g = places-next i t in
      ap (λ (k : ℕ). count_by p (take k xs)) (sym (add-one i)) ∙ omega arith

  -- how many pass
  pub count_places : (n : ℕ) → length xs ≡ n → count_by p xs ≡ length (places_of n (λ j. p (get_or xs j d)))
  count_places n e = sym (ap (count_by p) (take_all n xs (omega arith))) ∙ count_front n (omega arith)

and_true : (a : Bool) → a ≡ a && true
and_true true = refl
and_true false = refl

and_assoc : (a b c : Bool) → (a && b) && c ≡ a && (b && c)
and_assoc true b c = refl
and_assoc false b c = refl

or-not : (a b : Bool) → (a || not b) ≡ not (not a && b)
or-not true b = refl
or-not false b = refl

-- the first place apart
every-first : (n : ℕ) (t : ℕ → Bool) → every (suc n) t ≡ t 0 && every n (λ k. t (suc k))
unfolding every
every-first zero t = and_true (t 0)
every-first (suc n) t = ap (λ (b : Bool). b && t (suc n)) (every-first n t) ∙ and_assoc (t 0) _ _

-- some passes
pub any_every : {A : Type 0} (p : A → Bool) (xs : List A) (d : A) → list_any p xs ≡ not (every (length xs) (λ k. not (p (get_or xs k d))))
unfolding every
any_every p [] d = refl
any_every p (x ∷ xs) d =
    ap (λ (b : Bool). p x || b) (any_every p xs d)
    ∙ or-not (p x) _
    ∙ ap not (sym (every-first (length xs) (λ k. not (p (get_or (x ∷ xs) k d)))))

-- all numbers below n pass
pub below_every : (n : ℕ) (t : ℕ → Bool) → list_all t (range_with_len 0 n) ≡ every n t
below_every n t =
    all_every t (range_with_len 0 n) 0 n (length-range_with_len 0 n)
    ∙ every-same n (λ k. t (get_or (range_with_len 0 n) k 0)) t (λ k l. ap t (get_or-range_with_len 0 n k 0 l ∙ zero-add k))

-- one passes where there is a first
pub any_first : {A : Type 0} (p : A → Bool) (xs : List A) → list_any p xs ≡ ltb (position_or_len p xs) (length xs)
any_first p [] = refl
any_first p (x ∷ xs) = by (p x) (any_first p xs)
  where
    by : (b : Bool) → list_any p xs ≡ ltb (position_or_len p xs) (length xs) → (b || list_any p xs) ≡ ltb (cond (not b) (1 + position_or_len p xs) 0) (suc (length xs))
    by true e = sym (lt-ltb 0 (suc (length xs)) (omega arith))
    by false e = e ∙ grind (arith, nat_tests)

-- what `find` gives is the first that passes
pub find_first : {A : Type 0} (p : A → Bool) (xs : List A) (x d : A) → find p xs ≡ Some x → (position_or_len p xs < length xs) × (get_or xs (position_or_len p xs) d ≡ x)
find_first p xs x d e =
    let f = sym (find_at p xs) ∙ e in
    (slice_get_within xs (position_or_len p xs) x f, get_or_from_slice_get xs (position_or_len p xs) x d f)

pub find_nothing : {A : Type 0} (p : A → Bool) (xs : List A) → A → find p xs ≡ None → length xs ≤ position_or_len p xs
find_nothing p xs d e = elim (cases_lt (position_or_len p xs) (length xs)) [
  | inl l ↦ (let k = sym (slice_get-get_or xs (position_or_len p xs) d l) ∙ sym (find_at p xs) ∙ e in absurd (cc))
  | inr l ↦ l
]
