-- A call is refused with the number of its first cause, and accepted where none holds; so are a sampler's making and a fit. Assumes nothing.
use Rattle.std.specs.Prelude.{Some, Result, Ok, Err}
use Prim.Native.Nat.{ℕ, ◌≤◌, ◌<◌}
use mathlib.Core.Path.{◌≡◌, refl, sym, ap, ◌∙◌}
use mathlib.Core.Bool.{Bool, true, false, not, ◌&&◌, cond}
use mathlib.Core.List.{List, [], ◌∷◌}
use native.Mathlib.Omega.{arith}
use lib.Dec.{T, eqb, eqb→eq, leb}
use lib.ListN.{length}
use lib.Ieee.{Float}
use lib.Ieee.Bits.{is_true}
use lib.Ieee.Fits.{and_l, and_r}
use borrow.Author.Tests.{eq-eqb, ne_eqb}
use Rattle.arith.specs.Lists.{padded}
use Rattle.arith.proofs.Lists.{place-most}
use Rattle.arith.proofs.Tests.{is_false}
use Rattle.factor.specs.Cholesky.{factor_of, positive, cholesky_of}
use Rattle.factor.specs.Triangle.{entry, rows_of}
use Rattle.gp_model.specs.Fit.{fit_domain, factored_of, fitted_of, fit_of}
use Rattle.gp_model.specs.Kernels.{kernel_matrix_of}
use Rattle.gp_model.specs.Statistics.{lengthscales_of}
use Rattle.distribution.proofs.Facts.{parts}
use Rattle.distribution.specs.declared.Distribution.{Distribution}
use Rattle.refusal.specs.declared.Refusal.{Refusal}
use Rattle.refusal.specs.declared.Refusal.TheVariants.{NoRows, Pivot, OutOfDomain}
use Rattle.refusal.specs.Numbers.{cause_number, number_of}
use Rattle.history_rows.specs.Rows.{whole_rows}
use Rattle.history_rows.specs.Tests.{row_ok, slots_ok, ids_once, rows_agreeing, recent_tests, check_of}
use Rattle.history_rows.proofs.Passed.{every_recent}
use Rattle.settings.specs.declared.Settings.{Settings}
use Rattle.settings.specs.Settings.{settings_ok}
use Rattle.sampler_state.specs.declared.Sampler.{Sampler}
use Rattle.sampler_state.specs.State.{fresh_of, holds, place_at, trial_place, taken_count, make_of, sampler_ok}
use Rattle.sampler_state.proofs.Held.{no-spot, full-no-spot}
use Rattle.sampler_laws.specs.Calls.{spot_of}
use Rattle.sampler_laws.specs.Causes.{first_cause, cause_of, fit_cause_of}
use Rattle.sampler_laws.specs.Laws.{Typed, RefusalsTold}
use Rattle.sampler_laws.specs.NewTrials.{past_discovery}
use Rattle.sampler_laws.specs.Runs.{Asked, asks, closes, Call, call_of, call_number, read_asked}
use Rattle.sampler_laws.proofs.Nothing.{slots-least, slots-most}
use Rattle.sampler_laws.proofs.Parts.{well}
use Rattle.sampler_laws.proofs.Ways.{Passed, Refusing, malformed-sampler, malformed-asked, bad-history, no-dimension, no-draw, no_place, no-values, by-sample, by-close}
use Rattle.sampler_laws.proofs.WellFormed.{draws, serves}

-- ---- the history's number, and what comes after it

-- an accepted answer's number, or the refusal's
abbrev then_number : Result Unit Refusal → ℕ → ℕ
then_number (Ok u) k = k
then_number (Err c) k = cause_number c

-- one test, and those after it
tested : (b : Bool) (rest : Result Unit Refusal) (c : Refusal) (k n : ℕ) → then_number rest k ≡ n → then_number (cond b rest (Err c)) k ≡ cond (not b) (cause_number c) n
tested true rest c k n e = e
tested false rest c k n e = refl

history : (n : ℕ) (h : List ℕ) (k : ℕ) → leb 1 n ≡ true → leb n 20 ≡ true → then_number (check_of n h) k
    ≡ cond (not (whole_rows n h)) 3 (cond (not (every_recent n h row_ok)) 4 (cond (not (every_recent n h (slots_ok n))) 5 (cond (not (every_recent n h (ids_once n))) 6
    (cond (not (every_recent n h (λ a. every_recent n h (rows_agreeing n a)))) 7 k))))
unfolding check_of recent_tests
history n h k a b =
    rw (a, b)
    (tested (whole_rows n h) _ _ k _ (tested (every_recent n h row_ok) _ _ k _ (tested (every_recent n h (slots_ok n)) _ _ k _
    (tested (every_recent n h (ids_once n)) _ _ k _ (tested (every_recent n h (λ a. every_recent n h (rows_agreeing n a))) (Ok tt) _ k k refl)))))

-- ---- a sample call

module _ (s : Sampler) (t : Typed s) (d : Asked) (trial : ℕ) (h : List ℕ) where
  -- after the history's tests: 8 or 9
  abbrev placed : ℕ
  placed = cond (not (past_discovery s trial) && eqb s.dimensions.count 20) 8 (cond (past_discovery s trial && eqb (trial_place s.places trial) 32 && eqb (taken_count s.places) 32) 9 0)

  causes : (r : Distribution) → T (sampler_ok s) → read_asked d ≡ Some r → then_number (check_of s.settings.slots h) placed ≡ cause_of s (asks d trial h)
  unfolding cause_of
  causes r o e =
      rw (is_true (sampler_ok s) o, e)
      (history s.settings.slots h placed (is_true (leb 1 s.settings.slots) (slots-least s.settings (well s t o).ok.settings)) (is_true (leb s.settings.slots 20) (slots-most s.settings (well s t o).ok.settings)))

  past-tests : (r : Distribution) → Passed s d h r → placed ≡ cause_of s (asks d trial h)
  past-tests r p = sym (ap (λ (x : Result Unit Refusal). then_number x placed) p.history) ∙ causes r p.ok p.read

  refused : {c : Refusal} → Refusing s d trial h c → cause_number c ≡ cause_of s (asks d trial h)
  refused (malformed-sampler c n x) = unfold cause_of in rw x n
  refused (malformed-asked c n o q) = unfold cause_of in rw (is_true (sampler_ok s) o, q) n
  refused (bad-history o r q c x) = sym (ap (λ (x : Result Unit Refusal). then_number x placed) x) ∙ causes r o q
  refused (no-dimension c n r p past x) = n ∙ (rw (past, eq-eqb s.dimensions.count 20 x)) ∙ past-tests r p
  refused (no-draw r p c x) = absurd (draws s (well s t p.ok) d trial h r p c x)
  refused (no_place c n r p past l) = n ∙ let f = no-spot s.places trial l in (rw (past, eq-eqb (taken_count s.places) 32 f.0, eq-eqb (trial_place s.places trial) 32 f.1)) ∙ past-tests r p
  refused (no-values r p past c x) = absurd (serves s (well s t p.ok) d trial h r p past c x)

  -- where 32 are taken, a trial without a place has no spot
  room : spot_of s trial < 32 → T (eqb (trial_place s.places trial) 32 && eqb (taken_count s.places) 32) → ⊥
  room l b =
      let e : spot_of s trial ≡ 32 = full-no-spot s.places trial (eqb→eq (taken_count s.places) 32 (and_r (eqb (trial_place s.places trial) 32) (eqb (taken_count s.places) 32) b)) (eqb→eq (trial_place s.places trial) 32 (and_l (eqb (trial_place s.places trial) 32) (eqb (taken_count s.places) 32) b)) in
      absurd (omega arith)

  sampled : call_number (call_of s (asks d trial h)) ≡ cause_of s (asks d trial h)
  sampled =
      by-sample s d trial h (λ r. call_number r ≡ cause_of s (asks d trial h)) (λ c x. refused x)
      (λ r p past l x e. rw (past, ne_eqb s.dimensions.count 20 (λ z. omega arith)) at (past-tests r p))
      (λ r p past l v e. rw (past, is_false (eqb (trial_place s.places trial) 32 && eqb (taken_count s.places) 32) (room l)) at (past-tests r p))

-- ---- a close, a sampler's making and a fit

closed : (s : Sampler) (trial : ℕ) → call_number (call_of s (closes trial)) ≡ cause_of s (closes trial)
unfolding cause_of
closed s trial =
    by-close s trial (λ r. call_number r ≡ cause_of s (closes trial)) (λ c n x. rw x n) (λ c n o l. rw (is_true (sampler_ok s) o, eq-eqb (trial_place s.places trial) 32 (none l)) n)
    (λ o l. rw (is_true (sampler_ok s) o, ne_eqb (trial_place s.places trial) 32 (λ z. omega arith)))
  where
    none : 32 ≤ trial_place s.places trial → trial_place s.places trial ≡ 32
    none l = let m : trial_place s.places trial ≤ 32 = unfold trial_place in place-most 32 (λ j. holds trial (place_at s.places j)) in omega arith

made-number : (s : Settings) → number_of (make_of s) ≡ first_cause ((1, not (settings_ok s)) ∷ [])
unfolding make_of
made-number s = go (settings_ok s)
  where
    go : (b : Bool) → number_of (cond b (Ok (fresh_of s)) (Err Refusal.Settings)) ≡ cond (not b) 1 0
    go true = refl
    go false = refl

fit-number : (x y : List Float) (d : ℕ) (noise : Float) → number_of (fit_of x y d noise) ≡ fit_cause_of x y d noise
unfolding fit_of fitted_of cholesky_of fit_cause_of
fit-number x y d noise = go (fit_domain x y d) (eqb (length y) 0) (leb (length y) 100) (positive (entry k) (length y)) (λ t. unfold fit_domain in search parts depth 9)
  where
    k : List Float
    k = kernel_matrix_of x (length y) d (lengthscales_of x (length y) d) noise

    go : (a b c p : Bool) → (T a → T c)
        → number_of (cond a (cond b (Err NoRows) (factored_of x y d (cond c (cond p (Ok (padded 5050 (rows_of (factor_of (entry k)) (length y)))) (Err Pivot)) (Err OutOfDomain)))) (Err OutOfDomain))
        ≡ cond (not a) 11 (cond b 12 (cond (not p) 13 0))
    go true true c p h = refl
    go true false true true h = refl
    go true false true false h = refl
    go true false false p h = absurd (h tt)
    go false b c p h = refl

pub refusals_told : RefusalsTold
refusals_told = record { call = call; made = made-number; fit = fit-number }
  where
    call : (s : Sampler) (c : Call) → Typed s → call_number (call_of s c) ≡ cause_of s c
    call s (asks d trial h) t = sampled s t d trial h
    call s (closes trial) t = closed s trial
