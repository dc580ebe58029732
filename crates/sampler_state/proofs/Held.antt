-- A place written and a place looked up, in every list of 32, well-formed or not: what is written for a trial is found for it, nothing else is found for another, and how many places are taken. Assumes nothing.
use Prim.Native.Nat.{ℕ, ◌+◌, ◌≤◌, ◌<◌}
use native.Mathlib.Omega.{arith}
use mathlib.Core.Path.{◌≡◌, refl, sym, ap, ◌∙◌, subst}
use mathlib.Core.Bool.{Bool, true, false, not, cond}
use mathlib.Core.List.{List}
use mathlib.Core.Logic.{◌⊎◌, inl, inr}
use lib.Dec.{T, T_not, not_T, eqb, eqb→eq, eqb_refl, ltb}
use lib.ListN.{length, set, length-set, get_or-eq_default}
use lib.Seq.{get_or-set_same, get_or-set_other}
use lib.Ieee.Bits.{is_true, is_false}
use lib.Ieee.Fits.{eq→eqb}
use borrow.Author.Tests.{ltb-true, ltb-false, eq-eqb, ne_eqb}
use Rattle.arith.specs.Lists.{every}
use Rattle.arith.proofs.Lists.{place_is, place_none, place_found, place-most, place-before, place-some, place_same, places-but, places-all, places-full, each-every, every-each}
use Rattle.arith.proofs.Tests.{untaken, equal_or_not}
use Rattle.std.specs.Prelude.{Option, Some, None}
use Rattle.sampler_state.specs.declared.Place.{Place}
use Rattle.sampler_state.specs.State.{empty_place, place_at, taken, holds, trial_place, free_place, held_by, spot_for, taken_count, same_trial, trials_once}

abbrev taken_at : List (Option Place) → ℕ → Bool
taken_at ps i = taken (place_at ps i)

-- ---- a trial has a place, or the empty one is found for it

found-holds : (ps : List (Option Place)) (t : ℕ) → trial_place ps t < 32 → T (holds t (held_by ps t))
unfolding trial_place
found-holds ps t l = place_found 32 (λ j. holds t (place_at ps j)) l

pub record Own (ps : List (Option Place)) (t : ℕ) : Type 0 where
  pub below : trial_place ps t < 32
  pub held : T (holds t (held_by ps t))
  pub spot : spot_for ps t ≡ trial_place ps t

pub record Absent (ps : List (Option Place)) (t : ℕ) : Type 0 where
  pub none : trial_place ps t ≡ 32
  pub empty : held_by ps t ≡ empty_place
  pub spot : spot_for ps t ≡ free_place ps

pub own-or-none : (ps : List (Option Place)) → length ps ≡ 32 → (t : ℕ) → Own ps t ⊎ Absent ps t
unfolding spot_for
own-or-none ps n t = go (ltb (trial_place ps t) 32) refl
  where
    go : (b : Bool) → ltb (trial_place ps t) 32 ≡ b → Own ps t ⊎ Absent ps t
    go true e =
        let l = ltb-true (trial_place ps t) 32 e in
        inl (record { below = l; held = found-holds ps t l; spot = rw e })
    go false e =
        let l = ltb-false (trial_place ps t) 32 e in
        let m : trial_place ps t ≤ 32 = unfold trial_place in place-most 32 (λ j. holds t (place_at ps j)) in
        inr (record { none = omega arith; empty = get_or-eq_default ps empty_place (rw n l); spot = rw e })

-- what is found for a trial is its own
pub held-own : (ps : List (Option Place)) → length ps ≡ 32 → (t : ℕ) (q : Place) → held_by ps t ≡ Some q → q.trial ≡ t
held-own ps n t q e = elim (own-or-none ps n t) [ inl o ↦ eqb→eq q.trial t (subst (λ (p : Option Place). T (holds t p)) e o.held) | inr o ↦ absurd (let z = sym o.empty ∙ e in cc) ]

-- a trial's place is taken
pub holds-taken : (t : ℕ) (p : Option Place) → T (holds t p) → taken p ≡ true
holds-taken t (Some p) h = refl
holds-taken t None h = absurd h

-- a place is of one trial
holds-one : (t u : ℕ) (p : Option Place) → (u ≡ t → ⊥) → T (holds t p) → holds u p ≡ false
holds-one t u (Some p) x h = ne_eqb p.trial u (λ g. x (sym g ∙ eqb→eq p.trial t h))
holds-one t u None x h = refl

-- a place that is not taken is no trial's
holds-none : (u : ℕ) (p : Option Place) → taken p ≡ false → holds u p ≡ false
holds-none u (Some p) e = cc
holds-none u None e = refl

free-free : (ps : List (Option Place)) → free_place ps < 32 → taken_at ps (free_place ps) ≡ false
unfolding free_place
free-free ps l = is_false (taken_at ps (free_place ps)) (place_found 32 (λ i. not (taken_at ps i)) l)

pub free-empty : (ps : List (Option Place)) → free_place ps < 32 → place_at ps (free_place ps) ≡ empty_place
free-empty ps l = none (place_at ps (free_place ps)) (free-free ps l)
  where
    none : (p : Option Place) → taken p ≡ false → p ≡ empty_place
    none (Some q) e = cc
    none None e = refl

-- before a trial's spot no place is its own
before-spot : (ps : List (Option Place)) → length ps ≡ 32 → (t j : ℕ) → spot_for ps t < 32 → j < spot_for ps t → holds t (place_at ps j) ≡ false
unfolding trial_place
before-spot ps n t j l m = place-before 32 (λ k. holds t (place_at ps k)) j (elim (own-or-none ps n t) [
  | inl o ↦ (let e = o.spot in omega arith)
  | inr o ↦ (let e = o.none in omega arith)
])

-- and the place there is its own or free, so no other trial's
at-spot : (ps : List (Option Place)) → length ps ≡ 32 → (t u : ℕ) → (u ≡ t → ⊥) → spot_for ps t < 32 → holds u (place_at ps (spot_for ps t)) ≡ false
at-spot ps n t u x l = elim (own-or-none ps n t) [
  | inl o ↦ rw o.spot (holds-one t u (held_by ps t) x o.held)
  | inr o ↦ rw o.spot (holds-none u (place_at ps (free_place ps)) (free-free ps (rw o.spot at l)))
]

-- ---- one place written

module _ (ps : List (Option Place)) (n : length ps ≡ 32) (i : ℕ) (l : i < 32) (p : Option Place) where
  here : place_at (set ps i p) i ≡ p
  here = get_or-set_same ps i p empty_place (rw n l)

  there : (j : ℕ) → (j ≡ i → ⊥) → place_at (set ps i p) j ≡ place_at ps j
  there j x = get_or-set_other ps i j p empty_place x

  -- what holds of it and of each place holds of each place after
  pub each_set : (P : Option Place → Type 0) → P p → (j : ℕ) → P (place_at ps j) → P (place_at (set ps i p) j)
  each_set P h j g = elim (equal_or_not j i) [
    | inl e ↦ subst P (sym (ap (place_at (set ps i p)) e ∙ here)) h
    | inr x ↦ subst P (sym (there j x)) g
  ]

  -- a trial whose place neither the one before nor the one written is
  put-found : (u : ℕ) → holds u (place_at ps i) ≡ false → holds u p ≡ false → trial_place (set ps i p) u ≡ trial_place ps u
  unfolding trial_place
  put-found u a b = place_same 32 (λ j. holds u (place_at (set ps i p) j)) (λ j. holds u (place_at ps j)) (λ j m. elim (equal_or_not j i) [
    | inl e ↦ subst (λ (k : ℕ). holds u (place_at (set ps i p) k) ≡ holds u (place_at ps k)) (sym e) (ap (holds u) here ∙ b ∙ sym a)
    | inr x ↦ ap (holds u) (there j x)
  ])

  put_other : (u : ℕ) → holds u (place_at ps i) ≡ false → holds u p ≡ false → held_by (set ps i p) u ≡ held_by ps u
  put_other u a b = ap (place_at (set ps i p)) (put-found u a b) ∙ there (trial_place ps u) (λ e.
      T_not (holds u (place_at ps i)) (untaken a) (subst (λ (k : ℕ). T (holds u (place_at ps k))) e (found-holds ps u (subst (λ (k : ℕ). k < 32) (sym e) l))))

  -- one that is a trial's, and no earlier place is
  put-own : (t : ℕ) → ((j : ℕ) → j < i → holds t (place_at ps j) ≡ false) → T (holds t p) → trial_place (set ps i p) t ≡ i
  unfolding trial_place
  put-own t none h =
      place_is 32 (λ j. holds t (place_at (set ps i p) j)) i l
      (is_true _ (each-every i (λ j. not (holds t (place_at (set ps i p) j))) (λ j m.
      subst (λ (q : Option Place). T (not (holds t q))) (sym (there j (λ e. omega arith))) (untaken (none j m)))))
      (ap (holds t) here ∙ is_true (holds t p) h)

  -- so a trial that had none finds its place, wherever it is written
  pub put-new : (t : ℕ) → trial_place ps t ≡ 32 → T (holds t p) → (trial_place (set ps i p) t ≡ i) × (held_by (set ps i p) t ≡ p)
  put-new t none h = (at, ap (place_at (set ps i p)) at ∙ here)
    where
      at : trial_place (set ps i p) t ≡ i
      at = put-own t (λ j m. unfold trial_place in place-before 32 (λ k. holds t (place_at ps k)) j (omega arith)) h

  -- how many are taken
  put_count : taken_count (set ps i p) + cond (taken_at ps i) 1 0 ≡ taken_count ps + cond (taken p) 1 0
  unfolding taken_count
  put_count =
      places-but 32 (taken_at ps) (taken_at (set ps i p)) i l (λ j m x. ap taken (sym (there j x)))
      ∙ ap (λ (q : Option Place). taken_count ps + cond (taken q) 1 0) here

-- ---- a trial's place written at its spot

module _ (ps : List (Option Place)) (n : length ps ≡ 32) (t : ℕ) (p : Option Place) (l : spot_for ps t < 32) where
  spot-found : T (holds t p) → trial_place (set ps (spot_for ps t) p) t ≡ spot_for ps t
  spot-found h = put-own ps n (spot_for ps t) l p t (λ j m. before-spot ps n t j l m) h

  pub spot-own : T (holds t p) → held_by (set ps (spot_for ps t) p) t ≡ p
  spot-own h = ap (place_at (set ps (spot_for ps t) p)) (spot-found h) ∙ here ps n (spot_for ps t) l p

  pub spot-other : (u : ℕ) → (u ≡ t → ⊥) → holds u p ≡ false → held_by (set ps (spot_for ps t) p) u ≡ held_by ps u
  spot-other u x h = put_other ps n (spot_for ps t) l p u (at-spot ps n t u x l) h

  -- one more is taken where the trial had none
  pub spot-count : T (holds t p) → taken_count (set ps (spot_for ps t) p) ≡ taken_count ps + cond (eqb (trial_place ps t) 32) 1 0
  spot-count h =
      let c = put_count ps n (spot_for ps t) l p in
      let e : ◌≡◌ {A = ℕ} (cond (taken p) 1 0) 1 = rw (holds-taken t p h) in
      elim (own-or-none ps n t) [
        | inl o ↦ (let b = o.below in
            let x : ◌≡◌ {A = ℕ} (cond (taken_at ps (spot_for ps t)) 1 0) 1 = rw (o.spot, holds-taken t (held_by ps t) o.held) in
            let y : ◌≡◌ {A = ℕ} (cond (eqb (trial_place ps t) 32) 1 0) 0 = rw (ne_eqb (trial_place ps t) 32 (λ z. omega arith)) in omega arith)
        | inr o ↦ (let x : ◌≡◌ {A = ℕ} (cond (taken_at ps (spot_for ps t)) 1 0) 0 = rw (o.spot, free-free ps (rw o.spot at l)) in
            let y : ◌≡◌ {A = ℕ} (cond (eqb (trial_place ps t) 32) 1 0) 1 = rw (eq-eqb (trial_place ps t) 32 o.none) in omega arith)
      ]

-- ---- a trial's place emptied

module _ (ps : List (Option Place)) (n : length ps ≡ 32) (t : ℕ) (l : trial_place ps t < 32) where
  abbrev emptied : List (Option Place)
  emptied = set ps (trial_place ps t) empty_place

  -- no trial finds it
  pub emptied-none : (u : ℕ) → trial_place emptied u ≡ trial_place ps t → ⊥
  emptied-none u e =
      subst (λ (q : Option Place). T (holds u q)) (ap (place_at emptied) e ∙ here ps n (trial_place ps t) l empty_place) (found-holds emptied u (subst (λ (k : ℕ). k < 32) (sym e) l))

  pub emptied-other : (u : ℕ) → (u ≡ t → ⊥) → held_by emptied u ≡ held_by ps u
  emptied-other u x = put_other ps n (trial_place ps t) l empty_place u (holds-one t u (held_by ps t) x (found-holds ps t l)) refl

  pub emptied-count : taken_count emptied + 1 ≡ taken_count ps
  emptied-count =
      let c = put_count ps n (trial_place ps t) l empty_place in
      let e : ◌≡◌ {A = ℕ} (cond (taken (held_by ps t)) 1 0) 1 = rw (holds-taken t (held_by ps t) (found-holds ps t l)) in omega arith

-- ---- no spot: all are taken and none is the trial's

-- without a free place all are taken
none_free : (ps : List (Option Place)) → 32 ≤ free_place ps → (i : ℕ) → i < 32 → taken_at ps i ≡ true
unfolding free_place
none_free ps l i m = by (taken_at ps i) refl
  where
    by : (b : Bool) → taken_at ps i ≡ b → b ≡ true
    by true e = refl
    by false e = let k = place-some 32 (λ i. not (taken_at ps i)) i m (untaken e) in absurd (omega arith)

pub no-spot : (ps : List (Option Place)) (t : ℕ) → 32 ≤ spot_for ps t → (taken_count ps ≡ 32) × (trial_place ps t ≡ 32)
unfolding spot_for taken_count
no-spot ps t = go (ltb (trial_place ps t) 32) refl
  where
    go : (b : Bool) → ltb (trial_place ps t) 32 ≡ b → 32 ≤ cond b (trial_place ps t) (free_place ps) → (taken_count ps ≡ 32) × (trial_place ps t ≡ 32)
    go true e l = let m = ltb-true (trial_place ps t) 32 e in absurd (omega arith)
    go false e l =
        let m = ltb-false (trial_place ps t) 32 e in
        let k : trial_place ps t ≤ 32 = unfold trial_place in place-most 32 (λ j. holds t (place_at ps j)) in
        (places-all 32 (taken_at ps) (none_free ps l), omega arith)

pub all-taken : (ps : List (Option Place)) → taken_count ps ≡ 32 → (i : ℕ) → i < 32 → taken_at ps i ≡ true
unfolding taken_count
all-taken ps e = places-full 32 (taken_at ps) e

pub full-no-spot : (ps : List (Option Place)) (t : ℕ) → taken_count ps ≡ 32 → trial_place ps t ≡ 32 → spot_for ps t ≡ 32
unfolding spot_for free_place
full-no-spot ps t e p = rw p (place_none 32 (λ i. not (taken_at ps i)) (is_true _ (each-every 32 (λ i. not (not (taken_at ps i))) (λ i m. rw (all-taken ps e i m) tt))))

-- ---- no trial has two places

-- each taken place is the one that is found for its trial
abbrev pub Once : List (Option Place) → Type 0
Once ps = (j : ℕ) (q : Place) → j < 32 → place_at ps j ≡ Some q → trial_place ps q.trial ≡ j

-- a trial that has place a has no other before it
same-holds : (t : ℕ) (q : Place) (b : Option Place) → T (holds q.trial b) → T (same_trial b (Some q))
same-holds t q (Some p) h = eq→eqb (sym (eqb→eq p.trial q.trial h))
same-holds t q None h = absurd h

module _ (ps : List (Option Place)) where
  pub once : T (trials_once ps) → Once ps
  unfolding trials_once trial_place
  once o a q l e = place_is 32 (λ j. holds q.trial (place_at ps j)) a l (is_true _ (each-every a (λ b. not (holds q.trial (place_at ps b))) none)) (rw (e, eq-eqb q.trial q.trial refl))
    where
      none : (b : ℕ) → b < a → T (not (holds q.trial (place_at ps b)))
      none b m = not_T (holds q.trial (place_at ps b)) (λ g.
          T_not (same_trial (place_at ps b) (place_at ps a))
          (every-each a (λ b. not (same_trial (place_at ps b) (place_at ps a))) (every-each 32 (λ a. every a (λ b. not (same_trial (place_at ps b) (place_at ps a)))) o a l) b m)
          (rw e (same-holds q.trial q (place_at ps b) g)))

  pub from-once : Once ps → T (trials_once ps)
  unfolding trials_once trial_place
  from-once o = each-every 32 (λ a. every a (λ b. not (same_trial (place_at ps b) (place_at ps a)))) (λ a l.
      each-every a (λ b. not (same_trial (place_at ps b) (place_at ps a))) (λ b m.
      not_T (same_trial (place_at ps b) (place_at ps a)) (λ h. twice a b l m (place_at ps b) (place_at ps a) refl refl h)))
    where
      twice : (a b : ℕ) → a < 32 → b < a → (p q : Option Place) → place_at ps b ≡ p → place_at ps a ≡ q → T (same_trial p q) → ⊥
      twice a b l m (Some p) (Some q) e f h =
          let x = eqb→eq q.trial p.trial h in
          let y = o a q l f in
          let z = o b p (omega arith) e in
          let w : trial_place ps q.trial ≡ trial_place ps p.trial = ap (trial_place ps) x in
          omega arith
      twice a b l m (Some p) None e f h = h
      twice a b l m None q e f h = h

  module _ (n : length ps ≡ 32) (o : Once ps) where
    once-put : (i : ℕ) → i < 32 → (p : Option Place) → ((q : Place) → p ≡ Some q → trial_place (set ps i p) q.trial ≡ i)
        → ((u : ℕ) → trial_place ps u < 32 → (trial_place ps u ≡ i → ⊥) → (holds u (place_at ps i) ≡ false) × (holds u p ≡ false)) → Once (set ps i p)
    once-put i l p own other j q m k = elim (equal_or_not j i) [
      | inl e ↦ own q (sym (ap (place_at (set ps i p)) e ∙ here ps n i l p) ∙ k) ∙ sym e
      | inr x ↦ (let z = o j q m (sym (there ps n i l p j x) ∙ k) in
          let f = other q.trial (omega arith) (λ y. x (sym z ∙ y)) in
          put-found ps n i l p q.trial f.0 f.1 ∙ z)
    ]

    pub spot-once : (t : ℕ) (p : Place) → spot_for ps t < 32 → p.trial ≡ t → Once (set ps (spot_for ps t) (Some p))
    spot-once t p l h =
        once-put (spot_for ps t) l (Some p)
        (λ q e. let f : p ≡ q = cc in ap (trial_place (set ps (spot_for ps t) (Some p))) (sym (ap (λ (r : Place). r.trial) f) ∙ h) ∙ spot-found ps n t (Some p) l (rw h (eqb_refl t)))
        (λ u b x. let y : u ≡ t → ⊥ = apart u b x in (at-spot ps n t u y l, holds-one t u (Some p) y (rw h (eqb_refl t))))
      where
        apart : (u : ℕ) → trial_place ps u < 32 → (trial_place ps u ≡ spot_for ps t → ⊥) → u ≡ t → ⊥
        apart u b x e = elim (own-or-none ps n t) [
          | inl w ↦ x (ap (trial_place ps) e ∙ sym w.spot)
          | inr w ↦ (let z = ap (trial_place ps) e ∙ w.none in omega arith)
        ]

    pub emptied-once : (t : ℕ) → trial_place ps t < 32 → Once (set ps (trial_place ps t) empty_place)
    emptied-once t l =
        once-put (trial_place ps t) l empty_place (λ q z. cc) (λ u b x. (holds-one t u (held_by ps t) (λ e. x (ap (trial_place ps) e)) (found-holds ps t l), refl))

    -- and the trial then has none
    pub emptied-own : (t : ℕ) → trial_place ps t < 32 → trial_place (set ps (trial_place ps t) empty_place) t ≡ 32
    emptied-own t l = elim (own-or-none after (length-set ps i empty_place ∙ n) t) [ inl w ↦ absurd (again w) | inr w ↦ w.none ]
      where
        i : ℕ
        i = trial_place ps t

        after : List (Option Place)
        after = set ps i empty_place

        -- its first place after would be one of its places before
        again : Own after t → ⊥
        again w =
            let j = trial_place after t in
            let x : j ≡ i → ⊥ = emptied-none ps n t l t in
            let h = subst (λ (q : Option Place). T (holds t q)) (there ps n i l empty_place j x) w.held in
            same j w.below (place_at ps j) refl h x
          where
            same : (j : ℕ) → j < 32 → (q : Option Place) → place_at ps j ≡ q → T (holds t q) → (j ≡ i → ⊥) → ⊥
            same j m (Some q) e h x = x (sym (o j q m e) ∙ ap (trial_place ps) (eqb→eq q.trial t h))
            same j m None e h x = h
