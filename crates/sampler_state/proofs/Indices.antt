-- The places that are found, by their first index. Assumes nothing.
use Rattle.std.proofs.Common.{Bool, true, false, ltb-true, ◌<◌, inl, inr, ◌∙◌, sym, refl, ◌≡◌, ℕ, not, Some, None, Option, List, length, ltb, cond, ap, subst}
use Rattle.std.specs.List.{position}
use Rattle.arith.proofs.Passing.{first_place}
use Rattle.arith.specs.Lists.{place_of}
use Rattle.sampler_state.specs.declared.Place.{Place}
use Rattle.sampler_state.specs.declared.Found.{Found}
use Rattle.sampler_state.specs.State.{empty_place, place_at, taken, holds, index_below, trial_place, free_place, held_by, spot_for, found_for}
use Rattle.sampler_state.proofs.Held.{own-or-none, free-empty}

module _ (ps : List (Option Place)) (n : length ps ≡ 32) where
  position_below : (test : Option Place → Bool) → position test ps ≡ index_below 32 (place_of 32 (λ i. test (place_at ps i)))
  position_below test = subst (λ (k : ℕ). position test ps ≡ index_below k (place_of k (λ i. test (place_at ps i)))) n (ap (index_below (length ps)) (first_place test ps empty_place))

  pub trial_place_is : (t : ℕ) (r : Option ℕ) → r ≡ position (holds t) ps → r ≡ index_below 32 (trial_place ps t)
  unfolding trial_place
  trial_place_is t r e = e ∙ position_below (holds t)

  pub free_place_is : (r : Option ℕ) → r ≡ position (λ (p : Option Place). not (taken p)) ps → r ≡ index_below 32 (free_place ps)
  unfolding free_place
  free_place_is r e = e ∙ position_below (λ (p : Option Place). not (taken p))

  -- a trial's spot, by what is found of its place
  pub spot_own : (t i : ℕ) → index_below 32 (trial_place ps t) ≡ Some i → index_below 32 (spot_for ps t) ≡ Some i
  unfolding spot_for
  spot_own t i = go (ltb (trial_place ps t) 32) refl
    where
      go : (b : Bool) → ltb (trial_place ps t) 32 ≡ b → cond b (Some (trial_place ps t)) None ≡ Some i → index_below 32 (cond b (trial_place ps t) (free_place ps)) ≡ Some i
      go true e h = rw (e, h)
      go false e h = cc

  pub spot_free : (t : ℕ) → index_below 32 (trial_place ps t) ≡ None → spot_for ps t ≡ free_place ps
  unfolding spot_for
  spot_free t = go (ltb (trial_place ps t) 32)
    where
      go : (b : Bool) → cond b (Some (trial_place ps t)) None ≡ None → cond b (trial_place ps t) (free_place ps) ≡ free_place ps
      go true h = cc
      go false h = refl

  -- what is found for a trial stands at its spot
  at-spot : (t : ℕ) → spot_for ps t < 32 → held_by ps t ≡ place_at ps (spot_for ps t)
  at-spot t l = elim (own-or-none ps n t) [
    | inl o ↦ ap (place_at ps) (sym o.spot)
    | inr o ↦ o.empty ∙ sym (ap (place_at ps) o.spot ∙ free-empty ps (rw o.spot at l))
  ]

  pub found_at : (t i : ℕ) → index_below 32 (spot_for ps t) ≡ Some i → (i < 32) × (found_for ps t ≡ Some (record { place = place_at ps i; spot = i }))
  found_at t i = go (ltb (spot_for ps t) 32) refl
    where
      go : (b : Bool) → ltb (spot_for ps t) 32 ≡ b → cond b (Some (spot_for ps t)) None ≡ Some i
          → (i < 32) × (cond {A = Option Found} b (Some (record { place = held_by ps t; spot = spot_for ps t })) None ≡ Some (record { place = place_at ps i; spot = i }))
      go true e h =
          let l = ltb-true (spot_for ps t) 32 e in
          let f : spot_for ps t ≡ i = cc in
          (subst (λ (k : ℕ). k < 32) f l, rw (at-spot t l, f) refl)
      go false e h = cc

  pub found_nowhere : (t : ℕ) → index_below 32 (spot_for ps t) ≡ None → found_for ps t ≡ None
  found_nowhere t = go (ltb (spot_for ps t) 32)
    where
      go : (b : Bool) → cond b (Some (spot_for ps t)) None ≡ None → cond {A = Option Found} b (Some (record { place = held_by ps t; spot = spot_for ps t })) None ≡ None
      go true h = cc
      go false h = refl
