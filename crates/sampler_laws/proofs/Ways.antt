-- How a call is answered: its tests in their order, walked once for every law about calls. Assumes nothing.
use Rattle.std.specs.Prelude.{Option, Some, None, Result, Ok, Err}
use Rattle.std.specs.Result.{result_and}
use Prim.Native.Nat.{ℕ, ◌≤◌, ◌<◌}
use native.Mathlib.Omega.{arith}
use mathlib.Core.Path.{◌≡◌, refl, sym, ap, ◌∙◌, subst}
use mathlib.Core.Bool.{Bool, true, false, not, ◌||◌, cond}
use mathlib.Core.List.{List, []}
use lib.Dec.{T, eqb, eqb→eq, ltb}
use lib.Ieee.Bits.{is_true}
use borrow.Author.Tests.{eqb-false, ltb-true, ltb-false}
use Rattle.arith.specs.Outcome.{made}
use Rattle.arith.proofs.Tests.{taken, by-test}
use Rattle.rng_util.specs.declared.Draw.{Draw}
use Rattle.distribution.specs.declared.Distribution.{Distribution}
use Rattle.distribution.specs.declared.ParamValue.{ParamValue}
use Rattle.common.specs.Random.{sample_random_of}
use Rattle.refusal.specs.declared.Refusal.{Refusal}
use Rattle.refusal.specs.Numbers.{cause_number}
use Rattle.history_rows.specs.Tests.{check_of}
use Rattle.sampler_state.specs.declared.Sampler.{Sampler}
use Rattle.sampler_state.specs.State.{trial_place, sampler_ok}
use Rattle.sampler_state.proofs.Checked.{dimensions_few}
use Rattle.sampler_laws.specs.declared.Accepted.{Accepted}
use Rattle.sampler_laws.specs.declared.Sampled.{Sampled}
use Rattle.sampler_laws.specs.declared.Serving.{Serving}
use Rattle.sampler_laws.specs.Calls.{refused_of, answered_of, with_dimension, activated, drawn_of, written_of, discover_of, serving_for, spot_of, active_of, served_of, asked_of, sample_of, freed_of, close_of}
use Rattle.sampler_laws.specs.NewTrials.{past_discovery, served_history}
use Rattle.sampler_laws.specs.Runs.{Asked, asks, call_of, read_asked}

-- ---- a sample call

-- the tests before the phases are passed
pub record Passed (s : Sampler) (d : Asked) (h : List ℕ) (r : Distribution) : Type 0 where
  pub ok : T (sampler_ok s)
  pub read : read_asked d ≡ Some r
  pub history : check_of s.settings.slots h ≡ Ok tt

-- an active sampler is itself with its discovery ended
pub is-activated : (s : Sampler) → s.active ≡ true → activated s ≡ s
is-activated s e = ap (λ (a : Bool). record { settings = s.settings; word = s.word; active = a; discovery_trial_id = s.discovery_trial_id; dimensions = s.dimensions; places = s.places }) (sym e)

-- the trial served past discovery, with the history that it is lent
abbrev pub served_now : Sampler → Distribution → ℕ → List ℕ → Result Serving Refusal
served_now s r trial h = serving_for s r trial (served_history s h)

-- a call of the discovery trial: discovery goes on
pub discovering : (s : Sampler) (trial : ℕ) → past_discovery s trial ≡ false → s.active ≡ false
discovering s trial = go s.active
  where
    go : (a : Bool) → a || not (eqb s.dimensions.count 0 || eqb trial s.discovery_trial_id) ≡ false → a ≡ false
    go true e = e
    go false e = refl

-- why it is refused, with the number
pub data Refusing (s : Sampler) (d : Asked) (trial : ℕ) (h : List ℕ) : Refusal → Type 0 where
  malformed-sampler : (c : Refusal) → cause_number c ≡ 11 → sampler_ok s ≡ false → Refusing s d trial h c
  malformed-asked : (c : Refusal) → cause_number c ≡ 2 → T (sampler_ok s) → read_asked d ≡ None → Refusing s d trial h c
  bad-history : T (sampler_ok s) → (r : Distribution) → read_asked d ≡ Some r → (c : Refusal) → check_of s.settings.slots h ≡ Err c → Refusing s d trial h c
  no-dimension : (c : Refusal) → cause_number c ≡ 8 → (r : Distribution) → Passed s d h r → past_discovery s trial ≡ false → s.dimensions.count ≡ 20 → Refusing s d trial h c
  no-draw : (r : Distribution) → Passed s d h r → (c : Refusal) → sample_random_of s.word r ≡ Err c → Refusing s d trial h c
  no_place : (c : Refusal) → cause_number c ≡ 9 → (r : Distribution) → Passed s d h r → past_discovery s trial ≡ true → 32 ≤ spot_of s trial → Refusing s d trial h c
  no-values : (r : Distribution) → Passed s d h r → past_discovery s trial ≡ true → (c : Refusal) → served_now s r trial h ≡ Err c → Refusing s d trial h c

-- what holds of each way to answer holds of the answer: a refusal, one more dimension, or the trial served and put back
module _ (s : Sampler) (d : Asked) (trial : ℕ) (h : List ℕ) (P : Sampled → Type 0) (no : (c : Refusal) → Refusing s d trial h c → P (refused_of s c))
    (discovers : (r : Distribution) → Passed s d h r → past_discovery s trial ≡ false → s.dimensions.count < 20 → (x : Draw ParamValue) → sample_random_of s.word r ≡ Ok x → P (answered_of s (Ok (drawn_of (with_dimension s trial r) x))))
    (serves : (r : Distribution) → Passed s d h r → past_discovery s trial ≡ true → spot_of s trial < 32 → (v : Serving) → served_now s r trial h ≡ Ok v → P (answered_of s (Ok (written_of (activated s) (spot_of s trial) v)))) where
  abbrev Holds : Result Accepted Refusal → Type 0
  Holds x = P (answered_of s x)

  module _ (r : Distribution) (p : Passed s d h r) where
    -- past discovery, with the history that is lent
    goes : past_discovery s trial ≡ true → Holds (active_of (activated s) r trial (served_history s h))
    unfolding active_of
    goes past = by-test Holds (ltb (spot_of s trial) 32) _ _ (λ l. served (served_now s r trial h) refl (ltb-true (spot_of s trial) 32 l)) (λ l. no _ (no_place _ refl r p past (ltb-false (spot_of s trial) 32 l)))
      where
        served : (x : Result Serving Refusal) → served_now s r trial h ≡ x → spot_of s trial < 32 → Holds (made (written_of (activated s) (spot_of s trial)) x)
        served (Ok v) e l = serves r p past l v e
        served (Err c) e l = no c (no-values r p past c e)

    -- one more dimension, for which there is room
    discover : past_discovery s trial ≡ false → Holds (discover_of s r trial)
    unfolding discover_of
    discover past =
        let l = dimensions_few s (is_true (sampler_ok s) p.ok) in
        by-test Holds (eqb s.dimensions.count 20) _ _ (λ z. no _ (no-dimension _ refl r p past (eqb→eq s.dimensions.count 20 (taken z)))) (λ z. drawn (sample_random_of s.word r) refl (let x = eqb-false s.dimensions.count 20 z in omega arith))
      where
        drawn : (x : Result (Draw ParamValue) Refusal) → sample_random_of s.word r ≡ x → s.dimensions.count < 20 → Holds (made (drawn_of (with_dimension s trial r)) x)
        drawn (Ok x) e l = discovers r p past l x e
        drawn (Err c) e l = no c (no-draw r p c e)

    served : Holds (served_of s r trial h)
    unfolding served_of
    served = go s.active (eqb s.dimensions.count 0 || eqb trial s.discovery_trial_id) refl refl
      where
        go : (a b : Bool) → s.active ≡ a → eqb s.dimensions.count 0 || eqb trial s.discovery_trial_id ≡ b
            → Holds (cond a (active_of s r trial h) (cond b (discover_of s r trial) (active_of (activated s) r trial [])))
        go true b e q = subst Holds (ap (λ (t : Sampler). active_of t r trial (served_history s h)) (is-activated s e) ∙ ap (λ (a : Bool). active_of s r trial (cond a h [])) e) (goes (rw e))
        go false true e q = discover (rw (e, q))
        go false false e q = subst Holds (ap (λ (a : Bool). active_of (activated s) r trial (cond a h [])) e) (goes (rw (e, q)))

  pub by-sample : P (call_of s (asks d trial h))
  unfolding sample_of
  by-sample = by-test Holds (sampler_ok s) _ _ (λ o. asked (taken o) (read_asked d) refl) (λ o. no _ (malformed-sampler _ refl o))
    where
      asked : T (sampler_ok s) → (x : Option Distribution) → read_asked d ≡ x → Holds (asked_of s x trial h)
      asked o None q = no _ (malformed-asked _ refl o q)
      asked o (Some r) q = tested (check_of s.settings.slots h) refl
        where
          tested : (x : Result Unit Refusal) → check_of s.settings.slots h ≡ x → Holds (result_and x (served_of s r trial h))
          tested (Ok u) z = served r (record { ok = o; read = q; history = z })
          tested (Err c) z = no c (bad-history o r q c z)

-- ---- a close

pub by-close : (s : Sampler) (trial : ℕ) (P : Sampled → Type 0) → ((c : Refusal) → cause_number c ≡ 11 → sampler_ok s ≡ false → P (refused_of s c))
    → ((c : Refusal) → cause_number c ≡ 10 → T (sampler_ok s) → 32 ≤ trial_place s.places trial → P (refused_of s c)) → (T (sampler_ok s) → trial_place s.places trial < 32 → P (answered_of s (Ok (freed_of s trial)))) → P (close_of s trial)
unfolding close_of
by-close s trial P malformed none freed =
    let i = trial_place s.places trial in
    let Holds : Result Accepted Refusal → Type 0 = λ x. P (answered_of s x) in
    by-test Holds (sampler_ok s) _ _ (λ o. by-test Holds (ltb i 32) _ _ (λ l. freed (taken o) (ltb-true i 32 l)) (λ l. none _ refl (taken o) (ltb-false i 32 l))) (λ o. malformed _ refl o)
