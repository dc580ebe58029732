-- "All other input is accepted": what passes the tests of a new trial has values. A statement.
use Rattle.std.specs.Prelude.{ℕ, ◌^◌, ◌<◌, ◌≡◌, List, T, Ok, is_ok}
use Rattle.std.specs.Float.{binary64}
use Rattle.std.specs.Float.Ieee.{fits}
use Rattle.distribution_words.specs.RoundTrip.{Held}
use Rattle.dimensions.specs.declared.DimensionInfo.{DimensionInfo}
use Rattle.dimensions.specs.Dimensions.{dimension_at}
use Rattle.param_mapping.specs.Mapping.{asked_of}
use Rattle.settings.specs.declared.Settings.{Settings}
use Rattle.settings.specs.Settings.{settings_ok}
use Rattle.proposal.specs.Proposal.{compute_candidate_of}

-- the floats of the dimensions are binary64's and the word has 64 bits, as those of a program are
pub record CandidateAccepted : Type 0 where
  pub accepted : (s : Settings) (dims : List DimensionInfo) (k w : ℕ) (h : List ℕ)
      → ((j : ℕ) → j < k → Held (dimension_at dims j).distribution) → ((j : ℕ) → j < k → T (fits binary64 (dimension_at dims j).lo) × T (fits binary64 (dimension_at dims j).hi))
      → T (settings_ok s) → 0 < w → w < 2 ^ 64 → asked_of s.slots dims k h ≡ Ok tt → T (is_ok (compute_candidate_of s dims k w h))
