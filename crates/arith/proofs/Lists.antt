-- The lists of specs/Lists in arrays: writing the next element, and reading one back. Assumes nothing.
use Rattle.std.proofs.Common.{◌≡◌, ℕ, zero, suc, ◌+◌, ◌-◌, ◌*◌, ◌<◌, ◌≤◌, Bool, true, false, cond, not, ◌&&◌, T, ltb, List, [], ◌∷◌, ◌++◌, length, get_or, take, set, replicate, sym, refl, ap, ◌∙◌, subst, inl, inr, le_of_suc-le-suc, not-suc-le-zero, mul-le-mul_right, suc-mul, eq-or-lt_of_le, add-one, arith, T_not, length-append, get_or-append-add, ltb-false, ltb-true, le-ltb, lt-ltb}
use mathlib.Core.Bool.{and-false}
use lib.ListN.{length-replicate, get_or-append, get_or-replicate}
use lib.Seq.{append_snoc, set-append_seam, get_or-append_seam, take-append_seam}
use lib.Ieee.{Float, nan, binary64, of_bits}
use lib.Ieee.Bits as bits
use lib.Ieee.Bits.{is_true}
use lib.Ieee.Fits.{and_i, and_l, and_r}
use Rattle.arith.proofs.Tests.{taken, untaken}
use Rattle.arith.specs.Lists.{every, grown, list_of, filled, padded, place_of, places_of}

more : (places k : ℕ) → k < places → places - k ≡ suc (places - suc k)
more places k h = omega arith

module _ {A : Type 0} where
  pub grown-length : (f : List A → ℕ → A) (n : ℕ) → length (grown f n) ≡ n
  unfolding grown
  grown-length f zero = refl
  grown-length f (suc n) = length-append (grown f n) (f (grown f n) n ∷ []) ∙ rw (grown-length f n, add-one n)

  -- element i is made from the ones before it
  pub grown-read : (f : List A → ℕ → A) (n i : ℕ) (z : A) → i < n → get_or (grown f n) i z ≡ f (grown f i) i
  unfolding grown
  grown-read f zero i z h = absurd (not-suc-le-zero h)
  grown-read f (suc n) i z h =
      elim (eq-or-lt_of_le (le_of_suc-le-suc h)) [
        | inl e ↦ subst (λ (k : ℕ). get_or (grown f n ++ (f (grown f n) n ∷ [])) k z ≡ f (grown f k) k) (sym e)
            (subst (λ (k : ℕ). get_or (grown f n ++ (f (grown f n) n ∷ [])) k z ≡ f (grown f n) n) (grown-length f n) (get_or-append_seam (grown f n) (f (grown f n) n) [] z))
        | inr l ↦ get_or-append (grown f n) (f (grown f n) n ∷ []) z i (subst (λ (k : ℕ). i < k) (sym (grown-length f n)) l) ∙ grown-read f n i z l
      ]

  -- lists of equal elements are equal
  pub list_same : (f g : ℕ → A) (n : ℕ) → ((i : ℕ) → i < n → f i ≡ g i) → list_of f n ≡ list_of g n
  unfolding grown
  list_same f g zero h = refl
  list_same f g (suc n) h = rw (list_same f g n (λ i l. h i (omega arith)), h n (omega arith))

  -- ---- an array of some places, with z past the list
  -- the next element is written behind the list
  filled-set : (z : A) (places : ℕ) (xs : List A) (v : A) → length xs < places → set (filled z places xs) (length xs) v ≡ filled z places (xs ++ (v ∷ []))
  filled-set z places xs v h =
      ap (λ (k : ℕ). set (xs ++ replicate k z) (length xs) v) (more places (length xs) h)
      ∙ set-append_seam xs z (replicate (places - suc (length xs)) z) v
      ∙ sym (append_snoc xs v (replicate (places - suc (length xs)) z))
      ∙ ap (λ (k : ℕ). (xs ++ (v ∷ [])) ++ replicate (places - k) z) (sym (length-append xs (v ∷ []) ∙ add-one (length xs)))

  -- the same, where the list's length is known by an equation
  pub filled-set-at : (z : A) (places : ℕ) (xs : List A) (n : ℕ) (v : A) → length xs ≡ n → n < places → set (filled z places xs) n v ≡ filled z places (xs ++ (v ∷ []))
  filled-set-at z places xs n v e h = subst (λ (k : ℕ). set (filled z places xs) k v ≡ filled z places (xs ++ (v ∷ []))) e (filled-set z places xs v (subst (λ (k : ℕ). k < places) (sym e) h))

  pub grown-filled-set : (z : A) (places : ℕ) (f : List A → ℕ → A) (n : ℕ) → n < places → set (filled z places (grown f n)) n (f (grown f n) n) ≡ filled z places (grown f (suc n))
  unfolding grown
  grown-filled-set z places f n h = filled-set-at z places (grown f n) n (f (grown f n) n) (grown-length f n) h

  pub filled_at : (z : A) (places : ℕ) (xs : List A) (i : ℕ) (d : A) → i < length xs → get_or (filled z places xs) i d ≡ get_or xs i d
  filled_at z places xs i d h = get_or-append xs (replicate (places - length xs) z) d i h

  -- past the list
  pub filled-past : (z : A) (places : ℕ) (xs : List A) (i : ℕ) (d : A) → length xs ≤ i → i < places → get_or (filled z places xs) i d ≡ z
  filled-past z places xs i d h g =
      let e : length xs + (i - length xs) ≡ i = omega arith in
      ap (λ (k : ℕ). get_or (filled z places xs) k d) (sym e) ∙ get_or-append-add xs (replicate (places - length xs) z) (i - length xs) d ∙ get_or-replicate (places - length xs) (i - length xs) z d (omega arith)

  -- the part of the array that the list fills
  pub filled-take : (z : A) (places : ℕ) (xs : List A) → take (length xs) (filled z places xs) ≡ xs
  filled-take z places xs = take-append_seam xs (replicate (places - length xs) z)

  pub filled-length : (z : A) (places : ℕ) (xs : List A) → length xs ≤ places → length (filled z places xs) ≡ places
  filled-length z places xs h = length-append xs (replicate (places - length xs) z) ∙ rw (length-replicate (places - length xs) z) (omega arith)

-- ---- the same of floats

pub grown-at : (f : List Float → ℕ → Float) (n i : ℕ) → i < n → get_or (grown f n) i nan ≡ f (grown f i) i
grown-at f n i h = grown-read f n i nan h

pub padded-set : (places : ℕ) (xs : List Float) (v : Float) → length xs < places → set (padded places xs) (length xs) v ≡ padded places (xs ++ (v ∷ []))
padded-set places xs v h = filled-set (of_bits binary64 0) places xs v h

pub grown-set : (places : ℕ) (f : List Float → ℕ → Float) (n : ℕ) → n < places → set (padded places (grown f n)) n (f (grown f n) n) ≡ padded places (grown f (suc n))
grown-set places f n h = grown-filled-set (of_bits binary64 0) places f n h

pub padded-at : (places : ℕ) (xs : List Float) (i : ℕ) → i < length xs → get_or (padded places xs) i nan ≡ get_or xs i nan
padded-at places xs i h = filled_at (of_bits binary64 0) places xs i nan h

pub grown-padded-at : (places : ℕ) (f : List Float → ℕ → Float) (n i : ℕ) → i < n → get_or (padded places (grown f n)) i nan ≡ get_or (grown f n) i nan
grown-padded-at places f n i h = padded-at places (grown f n) i (subst (λ (k : ℕ). i < k) (sym (grown-length f n)) h)

pub padded-take : (places : ℕ) (xs : List Float) → take (length xs) (padded places xs) ≡ xs
padded-take places xs = filled-take (of_bits binary64 0) places xs

pub grown-padded-take : (places : ℕ) (f : List Float → ℕ → Float) (n : ℕ) → take n (padded places (grown f n)) ≡ grown f n
grown-padded-take places f n = subst (λ (k : ℕ). take k (padded places (grown f n)) ≡ grown f n) (grown-length f n) (padded-take places (grown f n))

pub padded-length : (places : ℕ) (xs : List Float) → length xs ≤ places → length (padded places xs) ≡ places
padded-length places xs h = filled-length (of_bits binary64 0) places xs h

-- ---- tests of the places below n

-- one failure is enough
pub every-not : (n : ℕ) (t : ℕ → Bool) (i : ℕ) → i < n → t i ≡ false → every n t ≡ false
unfolding every
every-not zero t i h e = absurd (not-suc-le-zero h)
every-not (suc n) t i h e =
    elim (eq-or-lt_of_le (le_of_suc-le-suc h)) [
      | inl q ↦ ap (λ (b : Bool). every n t && b) (subst (λ (k : ℕ). t k ≡ false) q e) ∙ and-false (every n t)
      | inr l ↦ ap (λ (b : Bool). b && t n) (every-not n t i l e)
    ]

-- equal tests
pub every-same : (n : ℕ) (t u : ℕ → Bool) → ((i : ℕ) → i < n → t i ≡ u i) → every n t ≡ every n u
unfolding every
every-same zero t u h = refl
every-same (suc n) t u h = rw (every-same n t u (λ i l. h i (omega arith)), h n (omega arith))

-- each holds where all do, and all where each does
pub every-each : (n : ℕ) (t : ℕ → Bool) → T (every n t) → (i : ℕ) → i < n → T (t i)
unfolding every
every-each zero t h i l = absurd (not-suc-le-zero l)
every-each (suc n) t h i l =
    elim (eq-or-lt_of_le (le_of_suc-le-suc l)) [
      | inl e ↦ subst (λ (k : ℕ). T (t k)) (sym e) (and_r (every n t) (t n) h)
      | inr m ↦ every-each n t (and_l (every n t) (t n) h) i m
    ]

pub each-every : (n : ℕ) (t : ℕ → Bool) → ((i : ℕ) → i < n → T (t i)) → T (every n t)
unfolding every
each-every zero t h = tt
each-every (suc n) t h = and_i (every n t) (t n) (each-every n t (λ i l. h i (omega arith))) (h n (omega arith))

-- ---- the first place where the test holds

pub place_none : (n : ℕ) (t : ℕ → Bool) → every n (λ i. not (t i)) ≡ true → place_of n t ≡ n
unfolding every place_of
place_none zero t h = refl
place_none (suc n) t h =
    let k = taken h in
    let e = every n (λ i. not (t i)) in
    rw (place_none n t (is_true e (and_l e (not (t n)) k)), le-ltb n n (omega arith), bits.is_false (t n) (and_r e (not (t n)) k))

pub place_is : (n : ℕ) (t : ℕ → Bool) (i : ℕ) → i < n → every i (λ k. not (t k)) ≡ true → t i ≡ true → place_of n t ≡ i
unfolding place_of
place_is zero t i l h e = absurd (not-suc-le-zero l)
place_is (suc n) t i l h e =
    elim (eq-or-lt_of_le (le_of_suc-le-suc l)) [
      | inl q ↦ subst (λ (k : ℕ). place_of (suc k) t ≡ i) q (unfold place_of in rw (place_none i t h, le-ltb i i (omega arith), e))
      | inr m ↦ rw (place_is n t i m h e, lt-ltb i n m)
    ]

pub place_found : (n : ℕ) (t : ℕ → Bool) → place_of n t < n → T (t (place_of n t))
unfolding place_of
place_found zero t h = absurd (not-suc-le-zero h)
place_found (suc n) t h = go (place_found n t) (ltb (place_of n t) n) (t n) refl refl h
  where
    go : (place_of n t < n → T (t (place_of n t))) → (b c : Bool) → ltb (place_of n t) n ≡ b → t n ≡ c → cond b (place_of n t) (cond c n (suc n)) < suc n → T (t (cond b (place_of n t) (cond c n (suc n))))
    go f true c e q k = f (ltb-true (place_of n t) n e)
    go f false true e q k = taken q
    go f false false e q k = absurd (let z : suc 0 ≤ 0 = (let y : suc (suc n) ≤ suc n = k in omega arith) in not-suc-le-zero z)

pub place-most : (n : ℕ) (t : ℕ → Bool) → place_of n t ≤ n
unfolding place_of
place-most zero t = omega arith
place-most (suc n) t = go (place-most n t) (ltb (place_of n t) n) (t n)
  where
    go : place_of n t ≤ n → (b c : Bool) → cond b (place_of n t) (cond c n (suc n)) ≤ suc n
    go l true c = omega arith
    go l false true = omega arith
    go l false false = omega arith

-- before it the test holds nowhere
pub place-before : (n : ℕ) (t : ℕ → Bool) (i : ℕ) → i < place_of n t → t i ≡ false
unfolding place_of
place-before zero t i l = absurd (not-suc-le-zero l)
place-before (suc n) t i l = go (place-before n t i) (ltb (place_of n t) n) (t n) refl refl l
  where
    go : (i < place_of n t → t i ≡ false) → (b c : Bool) → ltb (place_of n t) n ≡ b → t n ≡ c → i < cond b (place_of n t) (cond c n (suc n)) → t i ≡ false
    go f true c e q l = f l
    go f false true e q l = let m = ltb-false (place_of n t) n e in f (omega arith)
    go f false false e q l = let m = ltb-false (place_of n t) n e in elim (eq-or-lt_of_le (le_of_suc-le-suc l)) [
      | inl z ↦ ap t z ∙ q
      | inr k ↦ f (omega arith)
    ]

-- where it holds somewhere, there is one
pub place-some : (n : ℕ) (t : ℕ → Bool) (i : ℕ) → i < n → T (t i) → place_of n t < n
unfolding place_of
place-some zero t i l h = absurd (not-suc-le-zero l)
place-some (suc n) t i l h = go (λ m. place-some n t i m h) (ltb (place_of n t) n) (t n) refl refl
  where
    go : (i < n → place_of n t < n) → (b c : Bool) → ltb (place_of n t) n ≡ b → t n ≡ c → cond b (place_of n t) (cond c n (suc n)) < suc n
    go f true c e q = let m = ltb-true (place_of n t) n e in omega arith
    go f false true e q = omega arith
    go f false false e q = absurd (elim (eq-or-lt_of_le (le_of_suc-le-suc l)) [
      | inl z ↦ T_not (t n) (untaken q) (subst (λ (k : ℕ). T (t k)) z h)
      | inr m ↦ let a = f m in let b = ltb-false (place_of n t) n e in (let z : suc 0 ≤ 0 = omega arith in not-suc-le-zero z)
    ])

pub place_same : (n : ℕ) (t u : ℕ → Bool) → ((i : ℕ) → i < n → t i ≡ u i) → place_of n t ≡ place_of n u
unfolding place_of
place_same zero t u h = refl
place_same (suc n) t u h = rw (place_same n t u (λ i l. h i (omega arith)), h n (omega arith))

-- ---- all of them

pub places_same : (n : ℕ) (t u : ℕ → Bool) → ((i : ℕ) → i < n → t i ≡ u i) → places_of n t ≡ places_of n u
unfolding places_of
places_same zero t u h = refl
places_same (suc n) t u h = rw (places_same n t u (λ i l. h i (omega arith)), h n (omega arith))

pub places-length : (n : ℕ) (t : ℕ → Bool) → length (places_of n t) ≤ n
unfolding places_of
places-length zero t = omega arith
places-length (suc n) t = go (places-length n t) (t n)
  where
    go : length (places_of n t) ≤ n → (b : Bool) → length (cond b (places_of n t ++ (n ∷ [])) (places_of n t)) ≤ suc n
    go l true = let e = length-append (places_of n t) (n ∷ []) in omega arith
    go l false = omega arith

pub places-at : (n : ℕ) (t : ℕ → Bool) (c : ℕ) → c < length (places_of n t) → (get_or (places_of n t) c 0 < n) × T (t (get_or (places_of n t) c 0))
unfolding places_of
places-at zero t c h = absurd (not-suc-le-zero h)
places-at (suc n) t c h = go (places-at n t c) (t n) refl h
  where
    wider : (k : ℕ) → (k < n) × T (t k) → (k < suc n) × T (t k)
    wider k p = let l = p.0 in (omega arith, p.1)

    go : (c < length (places_of n t) → (get_or (places_of n t) c 0 < n) × T (t (get_or (places_of n t) c 0))) → (b : Bool) → t n ≡ b → c < length (cond b (places_of n t ++ (n ∷ [])) (places_of n t)) → (get_or (cond b (places_of n t ++ (n ∷ [])) (places_of n t)) c 0 < suc n) × T (t (get_or (cond b (places_of n t ++ (n ∷ [])) (places_of n t)) c 0))
    go f false e l = wider (get_or (places_of n t) c 0) (f l)
    go f true e l =
        let q = length-append (places_of n t) (n ∷ []) in
        let m : c < suc (length (places_of n t)) = omega arith in
        elim (eq-or-lt_of_le (le_of_suc-le-suc m)) [
          | inl z ↦ subst (λ (k : ℕ). (k < suc n) × T (t k)) (sym (subst (λ (j : ℕ). get_or (places_of n t ++ (n ∷ [])) j 0 ≡ n) (sym z) (get_or-append_seam (places_of n t) n [] 0))) (omega arith, taken e)
          | inr k ↦ subst (λ (j : ℕ). (j < suc n) × T (t j)) (sym (get_or-append (places_of n t) (n ∷ []) 0 c k)) (wider (get_or (places_of n t) c 0) (f k))
        ]

-- ---- how many of them there are

pub places-next : (n : ℕ) (t : ℕ → Bool) → length (places_of (suc n) t) ≡ length (places_of n t) + cond (t n) 1 0
unfolding places_of
places-next n t = go (t n)
  where
    go : (b : Bool) → length (cond b (places_of n t ++ (n ∷ [])) (places_of n t)) ≡ length (places_of n t) + cond b 1 0
    go true = length-append (places_of n t) (n ∷ [])
    go false = omega arith

-- two tests that differ at one place at most
pub places-but : (n : ℕ) (t u : ℕ → Bool) (i : ℕ) → i < n → ((j : ℕ) → j < n → (j ≡ i → ⊥) → t j ≡ u j)
    → length (places_of n u) + cond (t i) 1 0 ≡ length (places_of n t) + cond (u i) 1 0
places-but zero t u i l h = absurd (not-suc-le-zero l)
places-but (suc n) t u i l h =
    let p = places-next n t in
    let q = places-next n u in
    elim (eq-or-lt_of_le (le_of_suc-le-suc l)) [
      | inl e ↦ (let c = ap length (places_same n t u (λ j m. h j (omega arith) (λ z. omega arith))) in
          let x : ◌≡◌ {A = ℕ} (cond (t i) 1 0) (cond (t n) 1 0) = ap (λ (k : ℕ). cond (t k) 1 0) e in
          let y : ◌≡◌ {A = ℕ} (cond (u i) 1 0) (cond (u n) 1 0) = ap (λ (k : ℕ). cond (u k) 1 0) e in omega arith)
      | inr m ↦ (let c = places-but n t u i m (λ j k. h j (omega arith)) in
          let x : ◌≡◌ {A = ℕ} (cond (t n) 1 0) (cond (u n) 1 0) = ap (λ (y : Bool). cond y 1 0) (h n (omega arith) (λ z. omega arith)) in omega arith)
    ]

-- as many as there are places: the test holds everywhere
pub places-all : (n : ℕ) (t : ℕ → Bool) → ((i : ℕ) → i < n → t i ≡ true) → length (places_of n t) ≡ n
places-all zero t h = unfold places_of in refl
places-all (suc n) t h =
    let p = places-next n t in
    let q = places-all n t (λ i l. h i (omega arith)) in
    let x : ◌≡◌ {A = ℕ} (cond (t n) 1 0) 1 = ap (λ (y : Bool). cond y 1 0) (h n (omega arith)) in omega arith

pub places-full : (n : ℕ) (t : ℕ → Bool) → length (places_of n t) ≡ n → (i : ℕ) → i < n → t i ≡ true
places-full zero t e i l = absurd (not-suc-le-zero l)
places-full (suc n) t e i l = go (λ q m. places-full n t q i m) (t n) refl (places-next n t)
  where
    go : (length (places_of n t) ≡ n → i < n → t i ≡ true) → (b : Bool) → t n ≡ b → length (places_of (suc n) t) ≡ length (places_of n t) + cond b 1 0 → t i ≡ true
    go f true q p = elim (eq-or-lt_of_le (le_of_suc-le-suc l)) [
      | inl z ↦ subst (λ (k : ℕ). t k ≡ true) (sym z) q
      | inr m ↦ f (omega arith) m
    ]
    go f false q p = let m = places-length n t in absurd (omega arith)

-- eight elements fill an array of eight
pub eight-filled : {A : Type 0} (z : A) (f : ℕ → A) (p : ℕ) → p ≡ 8 → filled z 8 (list_of f p) ≡ list_of f 8
unfolding grown
eight-filled z f p e = rw e

-- ---- tables, row after row

-- a row ends within its table
pub row-end : (i n d : ℕ) → i < n → i * d + d ≤ n * d
row-end i n d h = rw (suc-mul i d) at (mul-le-mul_right d h)
