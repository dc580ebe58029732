-- "Mapping: the first recent row's entries sorted by id; each dimension in order consumes the first equal distribution." Definitions only.
use Rattle.refusal.specs.declared.Refusal.{Refusal}
use Rattle.refusal.specs.declared.Refusal.TheVariants.{OutOfDomain}
use Rattle.std.specs.Prelude.{ℕ, zero, suc, Bool, false, not, ◌&&◌, cond, List, [], ◌∷◌, eqb, ltb, get_or, Option, Some, None, Result, Ok, Err}
use Rattle.std.specs.Result.{result_and}
use Rattle.arith.specs.Lists.{every, grown, filled}
use Rattle.distribution.specs.declared.Distribution.{Distribution}
use Rattle.dimensions.specs.declared.DimensionInfo.{DimensionInfo}
use Rattle.dimensions.specs.Dimensions.{dimension_at, dimensions_ok}
use Rattle.history_rows.specs.Rows.{row_at, slot_at, recent_of}
use Rattle.slots.specs.Slot.{id_of, present, slot_read, reads_equal}
use Rattle.history_rows.specs.Tests.{check_of}

-- a slot put before the first one of a greater id
unfoldable pub insert_by_id : List ℕ → List (List ℕ) → List (List ℕ)
insert_by_id v [] = v ∷ []
insert_by_id v (w ∷ ws) = cond (ltb (id_of v) (id_of w)) (v ∷ w ∷ ws) (w ∷ insert_by_id v ws)

-- the entries among a row's first n slots, those that are present, sorted by id
unfoldable pub entries_of : List ℕ → ℕ → List (List ℕ)
unfolding insert_by_id
entries_of row zero = []
entries_of row (suc s) = cond (present (slot_at row s)) (insert_by_id (slot_at row s) (entries_of row s)) (entries_of row s)

-- the id of the first entry for which the test holds
unfoldable pub first_entry : (List ℕ → Bool) → List (List ℕ) → Option ℕ
first_entry t [] = None
first_entry t (v ∷ vs) = cond (t v) (Some (id_of v)) (first_entry t vs)

-- an id that one of the first j dimensions consumed
abbrev pub is_mapped : ℕ → Option ℕ → Bool
is_mapped id (Some found) = eqb found id
is_mapped id None = false

unfoldable pub consumed_of : List (Option ℕ) → ℕ → ℕ → Bool
consumed_of mapping j id = not (every j (λ i. not (is_mapped id (get_or mapping i None))))

-- an entry that dimension j may consume, after the ones before it
unfoldable pub matches_of : List (Option ℕ) → ℕ → Distribution → List ℕ → Bool
unfolding consumed_of slot_read
matches_of before j d v = reads_equal (Some d) (slot_read v) && not (consumed_of before j (id_of v))

-- the ids of k dimensions in a row of n slots
unfoldable pub mapped_of : ℕ → List DimensionInfo → ℕ → List ℕ → List (Option ℕ)
unfolding entries_of first_entry matches_of
mapped_of n dims k row = grown (λ before j. first_entry (matches_of before j (dimension_at dims j).distribution) (entries_of row n)) k

-- a malformed dimension, a count over 20 or slots outside 1 to 20 are 11, then come the tests 3 to 7
unfoldable pub asked_of : ℕ → List DimensionInfo → ℕ → List ℕ → Result Unit Refusal
unfolding dimensions_ok check_of
asked_of n dims k h = cond (dimensions_ok dims k) (check_of n h) (Err OutOfDomain)

-- past the dimensions there is none
unfoldable pub mapping_of : ℕ → List DimensionInfo → ℕ → List ℕ → Result (List (Option ℕ)) Refusal
unfolding asked_of mapped_of recent_of
mapping_of n dims k h = result_and (asked_of n dims k h) (Ok (filled None 20 (mapped_of n dims k (row_at n (recent_of n h) 0))))
