-- What it says that a mapping or training data are not refused, of the recent rows and of the mapping too. Assumes nothing.
use Rattle.refusal.specs.declared.Refusal.{Refusal}
use Rattle.refusal.specs.declared.Refusal.TheVariants.{OutOfDomain}
use Rattle.std.specs.Prelude.{Option, None, Result, Ok, Err}
use Rattle.std.specs.Result.{result_and}
use mathlib.Core.Path.{◌≡◌, refl}
use mathlib.Core.List.{List}
use Prim.Native.Nat.{ℕ, ◌≤◌}
use lib.Dec.{T, leb, leb→le}
use lib.Ieee.Fits.{and_l}
use Rattle.arith.specs.Lists.{every, filled}
use Rattle.dimensions.specs.declared.DimensionInfo.{DimensionInfo}
use Rattle.dimensions.specs.Dimensions.{dimension_at, dimension_ok, dimensions_ok}
use Rattle.param_mapping.specs.Mapping.{mapped_of, asked_of, mapping_of}
use Rattle.history_rows.specs.declared.RecentRows.{RecentRows}
use Rattle.history_rows.specs.Recent.{recent_part}
use Rattle.history_rows.specs.Rows.{whole_rows, row_at, row_count, older_of, recent_of}
use Rattle.history_rows.specs.Tests.{check_of}
use Rattle.history_rows.proofs.Border.{part-start, part-rows}
use Rattle.history_rows.proofs.Passed.{Passed, passes, passed}

-- a first answer without a value, and one after it
pub and-ok : {A : Type 0} (r : Result Unit Refusal) (x y : A) → result_and r (Ok x) ≡ Ok y → (r ≡ Ok tt) × (y ≡ x)
and-ok (Ok u) x y e = (refl, cc)
and-ok (Err d) x y e = cc

pub and-err : {A : Type 0} (r : Result Unit Refusal) (x : A) (d : Refusal) → result_and r (Ok x) ≡ Err d → r ≡ Err d
and-err (Ok u) x d e = cc
and-err (Err c) x d e = cc

-- the dimensions too are well-formed
pub accepted : (n : ℕ) (dims : List DimensionInfo) (k : ℕ) (h : List ℕ) → asked_of n dims k h ≡ Ok tt → T (dimensions_ok dims k) × Passed n h
unfolding asked_of
accepted n dims k h e = let a = passes (dimensions_ok dims k) (check_of n h) OutOfDomain e in (a.0, passed n h a.1)

-- what the code asks of a history that it opens
pub opened : (n : ℕ) (dims : List DimensionInfo) (k : ℕ) (h : List ℕ) → asked_of n dims k h ≡ Ok tt → (n ≤ 20) × (k ≤ 20) × T (whole_rows n h)
opened n dims k h e =
    let a = accepted n dims k h e in
    (leb→le n 20 a.1.slots-most, leb→le k 20 (few a.0), a.1.whole)
  where
    few : T (dimensions_ok dims k) → T (leb k 20)
    few t = and_l (leb k 20) (every k (λ j. dimension_ok (dimension_at dims j))) (unfold dimensions_ok in t)

-- what is known of its recent rows, as the code finds them
pub record Recent (n k : ℕ) (h : List ℕ) (r : RecentRows) : Type 0 where
  pub slots : n ≤ 20
  pub few : k ≤ 20
  pub whole : T (whole_rows n h)
  pub start : r.start ≡ older_of n h
  pub rows : r.rows ≡ row_count n (recent_of n h)

pub recent : (n : ℕ) (dims : List DimensionInfo) (k : ℕ) (h : List ℕ) (r : RecentRows) → asked_of n dims k h ≡ Ok tt → r ≡ recent_part n h → Recent n k h r
recent n dims k h r e p =
    let o = opened n dims k h e in
    record { slots = o.0; few = o.1; whole = o.2; start = part-start n h r p o.0; rows = part-rows n h r p o.0 }

-- what the mapping is where nothing is refused
pub mapping-is : (n : ℕ) (dims : List DimensionInfo) (k : ℕ) (h : List ℕ) → asked_of n dims k h ≡ Ok tt → mapping_of n dims k h ≡ Ok (filled None 20 (mapped_of n dims k (row_at n (recent_of n h) 0)))
unfolding mapping_of
mapping-is n dims k h e = rw e

-- and what its answers say
pub mapping-accepted : (n : ℕ) (dims : List DimensionInfo) (k : ℕ) (h : List ℕ) (ids : List (Option ℕ)) → mapping_of n dims k h ≡ Ok ids
    → (asked_of n dims k h ≡ Ok tt) × (ids ≡ filled None 20 (mapped_of n dims k (row_at n (recent_of n h) 0)))
unfolding mapping_of
mapping-accepted n dims k h ids e = and-ok (asked_of n dims k h) _ ids e

pub mapping-refused : (n : ℕ) (dims : List DimensionInfo) (k : ℕ) (h : List ℕ) (r : Refusal) → mapping_of n dims k h ≡ Err r → asked_of n dims k h ≡ Err r
unfolding mapping_of
mapping-refused n dims k h r e = and-err (asked_of n dims k h) _ r e
