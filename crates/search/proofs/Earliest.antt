-- The search keeps the earliest maximum, over the generator's words. The state after n candidates is read off the words: the word moved n times the columns, and the best of the first n scores with its point. Assumes nothing.
use mathlib.Core.Path.{◌≡◌, refl, sym, ap, ◌∙◌, subst}
use mathlib.Core.Logic.{inl, inr}
use mathlib.Core.Bool.{Bool, true, false, cond}
use mathlib.Core.List.{List}
use Prim.Native.Nat.{ℕ, zero, suc, ◌+◌, ◌*◌, ◌≤◌, ◌<◌}
use native.Mathlib.Nat.{suc-mul, add_comm, zero-mul, not-suc-le-zero, suc-ne-zero}
use native.Mathlib.Omega.{arith}
use lib.Dec.{T}
use lib.Ieee.Bits as bits
use lib.ListN.{get_or, replicate}
use lib.Ieee.{Float, nan, inf, fin, binary64, lt, le, of_bits}
use Rattle.acquisition.proofs.Accepted.{improvement-accepts}
use Rattle.arith.specs.Bounds.{real, Sign}
use Rattle.arith.specs.Lists.{list_of, padded}
use Rattle.arith.proofs.Lists.{grown-at, list_same, row-end}
use Rattle.arith.proofs.Order as order
use Rattle.arith.proofs.Scan.{best, best_of, best_at, Best}
use Rattle.rng_util.specs.Draws.{unit_of}
use Rattle.rng_util.specs.Generator.{moved_of, stream_of}
use Rattle.rng_util.proofs.Stream.{moved-add, stream_at}
use Rattle.std.specs.Prelude.{Result, Ok, Err}
use Rattle.refusal.specs.declared.Refusal.{Refusal}
use Rattle.refusal.specs.declared.Refusal.TheVariants.{OutOfDomain}
use Rattle.gp_model.specs.declared.Model.{Model}
use Rattle.search.specs.declared.Candidate.{Candidate}
use Rattle.search.specs.declared.Search.{Search}
use Rattle.search.specs.Earliest.{drawn_of, BestDrawn, Earliest}
use Rattle.prediction.specs.Predict.{posterior_at}
use Rattle.search.specs.Search.{point_of, score_of, start_of, candidate_of, advance_of, found_of, optimum_of, search_domain, optimize_acquisition_of}

-- ---- scores
pub score-real : (m : Model) (p : List Float) → real (score_of m p)
unfolding score_of
score-real m p = (improvement-accepts (posterior_at m p).mean (posterior_at m p).std m.f_best).1

score-sign : (m : Model) (p : List Float) → Sign false (score_of m p)
unfolding score_of
score-sign m p = (improvement-accepts (posterior_at m p).mean (posterior_at m p).std m.f_best).2

-- what is not below 0 is above -infinity
above : (x : Float) → Sign false x → lt (inf true) x ≡ true
unfolding lt
above nan h = absurd (unfold le of_bits in h)
above (inf true) h = absurd (unfold le of_bits in h)
above (inf false) h = refl
above (fin s m e) h = refl

not-below : T (le (of_bits binary64 0) (inf true)) → ⊥
unfolding le of_bits
not-below h = absurd h

-- ---- the points
-- point c, read off the word before it
at-word : (d n w c : ℕ) → c < n → drawn_of d (stream_of (n * d) w) c ≡ point_of d (moved_of (c * d) w)
at-word d n w c h = list_same _ _ d one
  where
    one : (j : ℕ) → j < d → unit_of (get_or (stream_of (n * d) w) (c * d + j) 0) ≡ unit_of (moved_of (suc j) (moved_of (c * d) w))
    one j l =
        let e = row-end c n d h in
        let s : suc j + c * d ≡ suc (c * d + j) = omega arith in
        ap unit_of (stream_at (n * d) w (c * d + j) (omega arith) ∙ sym (ap (λ (k : ℕ). moved_of k w) s) ∙ moved-add (suc j) (c * d) w)

module _ (m : Model) (w : ℕ) (candidates : ℕ) where
  abbrev point : ℕ → List Float
  point c = point_of m.d (moved_of (c * m.d) w)

  abbrev score : ℕ → Float
  score c = score_of m (point c)

  abbrev scores : List Float
  scores = list_of score candidates

  at-score : (c : ℕ) → c < candidates → get_or scores c nan ≡ score c
  at-score c h = grown-at (λ xs i. score i) candidates c h

  -- ---- the state after n candidates
  abbrev after : ℕ → List Float → Search
  after n x = record { word = moved_of (n * m.d) w; best_ei = best_of scores n; best_x = x }

  word : (n : ℕ) → moved_of m.d (moved_of (n * m.d) w) ≡ moved_of (suc n * m.d) w
  word n = sym (moved-add m.d (n * m.d) w) ∙ ap (λ (k : ℕ). moved_of k w) (add_comm m.d (n * m.d) ∙ sym (suc-mul n m.d))

  step : (n : ℕ) (x : List Float) → n < candidates → candidate_of m (after n x) ≡ after (suc n) (cond (lt (best_of scores n) (score n)) (padded 20 (point n)) x)
  unfolding best_of
  step n x h = rw (at-score n h, sym (word n))

  halves : List Float
  halves = padded 20 (replicate m.d (of_bits binary64 0x3fe0000000000000))

  zero-state : start_of m.d w ≡ after 0 halves
  unfolding best_of moved_of halves
  zero-state = rw zero-mul

  kept : (t : Bool) (n c : ℕ) → cond t (padded 20 (point n)) (padded 20 (point c)) ≡ padded 20 (point (cond t n c))
  kept true n c = refl
  kept false n c = refl

  state : (n : ℕ) → suc n ≤ candidates → advance_of m (suc n) (start_of m.d w) ≡ after (suc n) (padded 20 (point (best_at scores (suc n))))
  unfolding advance_of best_at
  state zero h = ap (candidate_of m) zero-state ∙ step 0 halves h ∙ rw (at-score 0 h, above (score 0) (score-sign m (point 0)))
  state (suc n) h =
      ap (candidate_of m) (state n (omega arith)) ∙ step (suc n) (padded 20 (point (best_at scores (suc n)))) h
      ∙ ap (after (suc (suc n))) (kept (lt (best_of scores (suc n)) (score (suc n))) (suc n) (best_at scores (suc n)) ∙ ap (λ (v : Float). padded 20 (point (cond (lt (best_of scores (suc n)) v) (suc n) (best_at scores (suc n))))) (sym (at-score (suc n) h)))

  -- ---- the best of the scores
  real-scores : (k : ℕ) → k < candidates → real (get_or scores k nan)
  real-scores k h = subst real (sym (at-score k h)) (score-real m (point k))

  bests : Best scores candidates (best_of scores candidates) (best_at scores candidates)
  bests = best scores candidates real-scores

  -- a best of -infinity is below the first score
  some : (h : 0 < candidates) → best_of scores candidates ≡ inf true → ⊥
  some h e =
      let l : T (le (score 0) (inf true)) = subst (λ (v : Float). T (le v (inf true))) (at-score 0 h) (subst (λ (b : Float). T (le (get_or scores 0 nan) b)) e (bests.most 0 h)) in
      not-below (order.le_trans (of_bits binary64 0) (score 0) (inf true) (score-sign m (point 0)) l)

  abbrev drawn : ℕ → List Float
  drawn c = drawn_of m.d (stream_of (candidates * m.d) w) c

  at-drawn : (c : ℕ) → c < candidates → get_or scores c nan ≡ score_of m (drawn c)
  at-drawn c h = at-score c h ∙ ap (score_of m) (sym (at-word m.d candidates w c h))

  found : 0 < candidates → BestDrawn m candidates w (padded 20 (point (best_at scores candidates)))
  found h = elim bests.first [
    | inl e ↦ absurd (some h e)
    | inr q ↦ (let b = q.0 in
        let same : best_of scores candidates ≡ score_of m (drawn c) = sym q.1 ∙ at-drawn c b in
        record {
          index = c;
          best = record {
            below = b;
            highest = λ k l. subst (λ (v : Float). T (le v (score_of m (drawn c)))) (at-drawn k l) (subst (λ (b : Float). T (le (get_or scores k nan) b)) same (bests.most k l));
            earliest = λ k l. subst (λ (v : Float). T (lt v (score_of m (drawn c)))) (at-drawn k (omega arith)) (subst (λ (b : Float). T (lt (get_or scores k nan) b)) same (q.2 k l));
          };
          point = ap (padded 20) (sym (at-word m.d candidates w c b));
        })
  ]
    where
      c : ℕ
      c = best_at scores candidates

pub earliest : (m : Model) (candidates w : ℕ) → Earliest m candidates w (optimum_of m candidates w)
unfolding optimum_of advance_of
earliest m zero w = record { moved = unfold moved_of in rw zero-mul; none = λ _. refl; found = λ h. absurd (not-suc-le-zero h) }
earliest m (suc n) w =
    subst (λ (s : Search). Earliest m (suc n) w (found_of s)) (sym (state m w (suc n) n (omega arith)))
    (record { moved = refl; none = λ e. absurd (suc-ne-zero n e); found = found m w (suc n) })

-- ---- the search, in its domain
pub optimizes : (m : Model) (dims candidates w : ℕ) → T (search_domain m dims w) → optimize_acquisition_of m dims candidates w ≡ Ok (optimum_of m candidates w)
unfolding optimize_acquisition_of
optimizes m dims candidates w h = rw (bits.is_true (search_domain m dims w) h)

-- what is answered is what it finds
pub optimized : (m : Model) (dims candidates w : ℕ) (found : Candidate) → optimize_acquisition_of m dims candidates w ≡ Ok found → found ≡ optimum_of m candidates w
unfolding optimize_acquisition_of
optimized m dims candidates w found = go (search_domain m dims w)
  where
    go : (b : Bool) → cond {A = Result Candidate Refusal} b (Ok (optimum_of m candidates w)) (Err OutOfDomain) ≡ Ok found → found ≡ optimum_of m candidates w
    go true e = cc
    go false e = cc

pub search-earliest : (m : Model) (dims candidates w : ℕ) (found : Candidate) → optimize_acquisition_of m dims candidates w ≡ Ok found → Earliest m candidates w found
search-earliest m dims candidates w found e = subst (Earliest m candidates w) (sym (optimized m dims candidates w found e)) (earliest m candidates w)
