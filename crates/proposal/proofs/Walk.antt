-- What an accepted walk is: its values are those of its steps, each at the word after those before it. Assumes nothing.
use Prim.Native.Nat.{ℕ, zero, suc, ◌+◌, ◌≤◌, ◌<◌}
use mathlib.Core.Path.{◌≡◌, refl, sym, ap, ◌∙◌, subst}
use mathlib.Core.Bool.{cond}
use mathlib.Core.List.{List, [], ◌∷◌, ◌++◌}
use mathlib.Core.Logic.{inl, inr}
use native.Mathlib.Nat.{add_comm, suc-add, zero-add, eq-or-lt_of_le, le_of_suc-le-suc, not-suc-le-zero}
use native.Mathlib.Numerals.{add-one}
use native.Mathlib.Omega.{arith}
use lib.ListN.{length, get_or, set, length-append, get_or-append}
use lib.Seq.{get_or-append_seam}
use lib.Ieee.{Float}
use Rattle.std.specs.Prelude.{Option, Some, None, Result, Ok, Err}
use Rattle.refusal.specs.declared.Refusal.{Refusal}
use Rattle.arith.specs.Outcome.{made, and_then}
use Rattle.arith.proofs.Lists.{filled-set-at, filled_at, places-next}
use Rattle.arith.proofs.Tests.{by-test}
use Rattle.rng_util.specs.declared.Draw.{Draw}
use Rattle.rng_util.specs.Generator.{moved_of}
use Rattle.rng_util.proofs.Stream.{moved-add}
use Rattle.distribution.specs.Shape.{continuous_of}
use Rattle.distribution.specs.declared.ParamValue.{ParamValue}
use Rattle.common.proofs.Moves.{Moved, random-moves}
use Rattle.dimensions.specs.declared.DimensionInfo.{DimensionInfo}
use Rattle.dimensions.specs.Dimensions.{dimension_at, columns_of}
use Rattle.dimensions.specs.Empty.{empty_value}
use Rattle.proposal.specs.Values.{Values, decode_of, undrawn, step_of, step_at, walk_more, walk_of, values_in, walked_of}

-- an answer that is made of an accepted one
pub unmade : {A B : Type 0} (f : A → B) (r : Result A Refusal) (y : B) → made f r ≡ Ok y → (x : A) × (r ≡ Ok x) × (f x ≡ y)
unmade f (Ok x) y e = (x, refl, cc)
unmade f (Err r) y e = absurd (cc)

pub step-moves : (d : DimensionInfo) (u : Option Float) (w : ℕ) → Moved w (step_of d u w)
unfolding step_of
step-moves d None w = random-moves w d.distribution
step-moves d (Some u) w = by-test (Moved w) (continuous_of d.distribution) _ _ (λ _. go (decode_of d u)) (λ _. random-moves w d.distribution)
  where
    go : (v : Result ParamValue Refusal) → Moved w (made (undrawn w) v)
    go (Ok v) = record { few = omega arith; next = unfold moved_of in refl }
    go (Err x) = record { few = omega arith; next = unfold moved_of in refl }

-- some moves, and then some more
pub moves-on : (a b w : ℕ) → moved_of b (moved_of a w) ≡ moved_of (a + b) w
moves-on a b w = sym (moved-add b a w) ∙ ap (λ (k : ℕ). moved_of k w) (add_comm b a)

-- the columns before the next dimension
pub columns-next : (dims : List DimensionInfo) (j : ℕ) → length (columns_of dims j) + cond (continuous_of (dimension_at dims j).distribution) 1 0 ≡ length (columns_of dims (suc j))
unfolding columns_of
columns-next dims j = sym (places-next j (λ j. continuous_of (dimension_at dims j).distribution))

module _ (point : Option (List Float)) (dims : List DimensionInfo) (w : ℕ) where
  -- what holds before the first step and is kept by each accepted one holds of an accepted walk
  pub walk-all : (P : ℕ → Values → Type 0) → P 0 (record { value = []; drawn = 0; next = w })
      → ((j : ℕ) (b : Values) (r : Draw ParamValue) → walk_of point dims j w ≡ Ok b → P j b → step_at point dims j b.next ≡ Ok r → P (suc j) (walk_more b r))
      → (j : ℕ) (b : Values) → walk_of point dims j w ≡ Ok b → P j b
  unfolding walk_of
  walk-all P z f zero b e = let q : record { value = []; drawn = 0; next = w } ≡ b = cc in subst (P 0) q z
  walk-all P z f (suc j) b e = go (walk-all P z f j) (walk_of point dims j w) refl e
    where
      go : ((a : Values) → walk_of point dims j w ≡ Ok a → P j a)
          → (v : Result Values Refusal) → walk_of point dims j w ≡ v → and_then v (λ b. made (walk_more b) (step_at point dims j b.next)) ≡ Ok b → P (suc j) b
      go before (Ok a) p q = let u = unmade (walk_more a) (step_at point dims j a.next) b q in subst (P (suc j)) u.2 (f j a u.0 p (before a p) u.1)
      go before (Err x) p q = absurd (cc)

  -- what step i answers for its value v, after the values before it
  pub record Step (i : ℕ) (v : ParamValue) : Type 0 where
    pub before : Values
    pub walks : walk_of point dims i w ≡ Ok before
    pub draw : Draw ParamValue
    pub is : step_at point dims i (moved_of before.drawn w) ≡ Ok draw
    pub value : v ≡ draw.value

  pub record Walked (j : ℕ) (b : Values) : Type 0 where
    pub few : b.drawn ≤ j
    pub next : b.next ≡ moved_of b.drawn w
    pub values : (i : ℕ) → i < j → Step i (get_or b.value i empty_value)

  pub walk-length : (j : ℕ) (b : Values) → walk_of point dims j w ≡ Ok b → length b.value ≡ j
  walk-length = walk-all (λ j b. length b.value ≡ j) refl (λ j b r e p s. length-append b.value (_ ∷ []) ∙ rw (p, add-one j))

  pub walked : (j : ℕ) (b : Values) → walk_of point dims j w ≡ Ok b → Walked j b
  walked = walk-all Walked (record { few = omega arith; next = unfold moved_of in refl; values = λ i l. absurd (not-suc-le-zero l) }) more
    where
      more : (j : ℕ) (b : Values) (r : Draw ParamValue) → walk_of point dims j w ≡ Ok b → Walked j b → step_at point dims j b.next ≡ Ok r → Walked (suc j) (walk_more b r)
      more j b r e p s =
          let m : Moved b.next (Ok r) = subst (Moved b.next) s (step-moves _ _ b.next) in
          let n = walk-length j b e in
          let last : get_or (b.value ++ (r.value ∷ [])) j empty_value ≡ r.value = subst (λ (i : ℕ). get_or (b.value ++ (r.value ∷ [])) i empty_value ≡ r.value) n (get_or-append_seam b.value r.value [] empty_value) in
          record {
            few = let a = p.few in let c = m.few in omega arith;
            next = m.next ∙ ap (moved_of r.drawn) p.next ∙ moves-on b.drawn r.drawn w;
            values = λ i l. elim (eq-or-lt_of_le (le_of_suc-le-suc l)) [
              | inl q ↦ subst (λ (k : ℕ). Step k (get_or (b.value ++ (r.value ∷ [])) k empty_value)) (sym q)
                  (record { before = b; walks = e; draw = r; is = ap (step_at point dims j) (sym p.next) ∙ s; value = last })
              | inr h ↦ subst (Step i) (sym (get_or-append b.value (r.value ∷ []) empty_value i (subst (λ (k : ℕ). i < k) (sym n) h))) (p.values i h)
            ];
          }

  -- the same in an array
  pub walked-in : (j : ℕ) (c : Values) → walked_of point dims j w ≡ Ok c → Walked j c
  walked-in j c e = let u = unmade values_in (walk_of point dims j w) c e in subst (Walked j) u.2 (in-array u.0 u.1)
    where
      in-array : (b : Values) → walk_of point dims j w ≡ Ok b → Walked j (values_in b)
      in-array b q =
          let p = walked j b q in
          record {
            few = p.few;
            next = p.next;
            values = λ i l. subst (Step i) (sym (filled_at empty_value 20 b.value i empty_value (subst (λ (n : ℕ). i < n) (sym (walk-length j b q)) l))) (p.values i l);
          }

  -- the next value is written behind those before it
  pub walk-next : (j : ℕ) (c : Values) (r : Draw ParamValue) → j < 20 → walked_of point dims j w ≡ Ok c → step_at point dims j c.next ≡ Ok r
      → walked_of point dims (suc j) w ≡ Ok (record { value = set c.value j r.value; drawn = c.drawn + r.drawn; next = r.next })
  unfolding walk_of
  walk-next j c r h e = let u = unmade values_in (walk_of point dims j w) c e in subst Next u.2 (one u.0 u.1)
    where
      Next : Values → Type 0
      Next d = step_at point dims j d.next ≡ Ok r → walked_of point dims (suc j) w ≡ Ok (record { value = set d.value j r.value; drawn = d.drawn + r.drawn; next = r.next })

      one : (b : Values) → walk_of point dims j w ≡ Ok b → Next (values_in b)
      one b q s = rw (q, s, filled-set-at empty_value 20 b.value j r.value (walk-length j b q) h)

  -- a refused step refuses what is walked from there on
  pub walk-stops : (j : ℕ) (c : Values) (x : Refusal) → walked_of point dims j w ≡ Ok c → step_at point dims j c.next ≡ Err x → (n : ℕ) → walk_of point dims (n + suc j) w ≡ Err x
  unfolding walk_of
  walk-stops j c x e s zero =
      let u = unmade values_in (walk_of point dims j w) c e in
      let p : step_at point dims j u.0.next ≡ Err x = ap (λ (d : Values). step_at point dims j d.next) u.2 ∙ s in
      rw (zero-add, u.1, p)
  walk-stops j c x e s (suc n) = rw (suc-add, walk-stops j c x e s n)
