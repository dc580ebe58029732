-- "`optimize_acquisition`: strict > from minus infinity, so ties keep the earlier point." A search is an advance by all candidates from the start. Definitions only.
use Rattle.std.specs.Prelude.{ℕ, zero, suc, Bool, true, cond, not, ◌&&◌, List, eqb, leb, replicate, Float, Result, Ok, Err}
use Rattle.std.specs.Float.{inf, binary64}
use Rattle.std.specs.Float.Ieee.{lt, of_bits}
use Rattle.refusal.specs.declared.Refusal.{Refusal}
use Rattle.refusal.specs.declared.Refusal.TheVariants.{OutOfDomain}
use Rattle.acquisition.specs.Improvement.{expected_improvement_of}
use Rattle.arith.specs.Lists.{list_of, padded}
use Rattle.arith.specs.Outcome.{value_of}
use Rattle.rng_util.specs.Draws.{unit_of}
use Rattle.rng_util.specs.Generator.{moved_of}
use Rattle.search.specs.declared.Candidate.{Candidate}
use Rattle.gp_model.specs.declared.Model.{Model}
use Rattle.search.specs.declared.Search.{Search}
use Rattle.prediction.specs.Predict.{posterior_at, counts_fit}

-- the next d words as unit floats
abbrev pub point_of : ℕ → ℕ → List Float
point_of d w = list_of (λ j. unit_of (moved_of (suc j) w)) d

abbrev pub draw_of : ℕ → ℕ → Candidate
draw_of d w = record { x = padded 20 (point_of d w); next = moved_of d w }

-- the same as an answer: over 20 coordinates, or a zero word, are 11
unfoldable pub draw_point_of : ℕ → ℕ → Result Candidate Refusal
draw_point_of d w = cond (leb d 20 && not (eqb w 0)) (Ok (draw_of d w)) (Err OutOfDomain)

-- a model of these parts
abbrev pub parts_of : List Float → List Float → List Float → List Float → Float → ℕ → ℕ → Model
parts_of x lengthscales cholesky alpha best n d = record { x_train = x; lengthscales = lengthscales; cholesky = cholesky; alpha = alpha; f_best = best; n = n; d = d }

-- the expected improvement at a point; every three floats have one (acquisition/specs/Accepts)
unfoldable pub score_of : Model → List Float → Float
score_of m p = value_of (expected_improvement_of (posterior_at m p).mean (posterior_at m p).std m.f_best)

-- before the first candidate: all 0.5, and a best score of minus infinity
abbrev pub start_of : ℕ → ℕ → Search
start_of d w = record { word = w; best_ei = inf true; best_x = padded 20 (replicate d (of_bits binary64 0x3fe0000000000000)) }

-- one candidate: it is kept where its score is above the best one
abbrev pub kept_of : Search → ℕ → List Float → Float → Search
kept_of s next p ei = record { word = next; best_ei = cond (lt s.best_ei ei) ei s.best_ei; best_x = cond (lt s.best_ei ei) (padded 20 p) s.best_x }

abbrev pub candidate_of : Model → Search → Search
candidate_of m s = kept_of s (moved_of m.d s.word) (point_of m.d s.word) (score_of m (point_of m.d s.word))

-- n candidates
unfoldable pub advance_of : Model → ℕ → Search → Search
unfolding score_of
advance_of m zero s = s
advance_of m (suc n) s = candidate_of m (advance_of m n s)

-- a model as for a prediction, its column count, and a generator word that is not 0
unfoldable pub search_domain : Model → ℕ → ℕ → Bool
unfolding counts_fit
search_domain m dims w = counts_fit m.n m.d && eqb dims m.d && not (eqb w 0)

abbrev pub found_of : Search → Candidate
found_of s = record { x = s.best_x; next = s.word }

-- what a search finds
unfoldable pub optimum_of : Model → ℕ → ℕ → Candidate
unfolding advance_of
optimum_of m candidates w = found_of (advance_of m candidates (start_of m.d w))

-- the same as an answer: 11 outside its domain
unfoldable pub optimize_acquisition_of : Model → ℕ → ℕ → ℕ → Result Candidate Refusal
unfolding search_domain optimum_of
optimize_acquisition_of m dims candidates w = cond (search_domain m dims w) (Ok (optimum_of m candidates w)) (Err OutOfDomain)

-- the generator's word after an answer: a refusal leaves it as it was
abbrev pub word_after : ℕ → Result Candidate Refusal → ℕ
word_after w (Ok found) = found.next
word_after w (Err r) = w
