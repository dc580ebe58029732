-- The earliest maximum, over the generator's words alone: demand 3, "the earliest drawn for it whose expected improvement under that model is at least that of every other one drawn for it. With no candidates it is .. all 0.5." A statement.
use Rattle.std.specs.Prelude.{◌≡◌, List, ℕ, ◌+◌, ◌*◌, ◌<◌, T, get_or, replicate, Float}
use Rattle.std.specs.Float.{binary64}
use Rattle.std.specs.Float.Ieee.{lt, le, of_bits}
use Rattle.arith.specs.Lists.{list_of, padded}
use Rattle.rng_util.specs.Draws.{unit_of}
use Rattle.rng_util.specs.Generator.{moved_of, stream_of}
use Rattle.gp_model.specs.declared.Model.{Model}
use Rattle.search.specs.declared.Candidate.{Candidate}
use Rattle.search.specs.Search.{score_of}

-- point c of the words drawn: d words each as unit floats, point after point
abbrev pub drawn_of : ℕ → List ℕ → ℕ → List Float
drawn_of d words c = list_of (λ j. unit_of (get_or words (c * d + j) 0)) d

-- of n scores c's is at least every other's, and above every earlier one's
pub record EarliestHighest (score : ℕ → Float) (n c : ℕ) : Type 0 where
  pub below : c < n
  pub highest : (i : ℕ) → i < n → T (le (score i) (score c))
  pub earliest : (i : ℕ) → i < c → T (lt (score i) (score c))

-- x is the point drawn with the earliest highest score, of that many candidates at the word w
pub record BestDrawn (m : Model) (candidates w : ℕ) (x : List Float) : Type 0 where
  pub index : ℕ
  pub best : EarliestHighest (λ i. score_of m (drawn_of m.d (stream_of (candidates * m.d) w) i)) candidates index
  pub point : x ≡ padded 20 (drawn_of m.d (stream_of (candidates * m.d) w) index)

-- r is right for a search of that many candidates at the word w
pub record Earliest (m : Model) (candidates w : ℕ) (r : Candidate) : Type 0 where
  -- the generator has moved candidates × columns times
  pub moved : r.next ≡ moved_of (candidates * m.d) w
  -- without a candidate the point is all 0.5
  pub none : candidates ≡ 0 → r.x ≡ padded 20 (replicate m.d (of_bits binary64 0x3fe0000000000000))
  -- else it is the best point drawn
  pub found : 0 < candidates → BestDrawn m candidates w r.x
