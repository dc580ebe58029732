-- A history that is not refused passed each test. Assumes nothing.
use Rattle.refusal.specs.declared.Refusal.{Refusal}
use Rattle.refusal.specs.declared.Refusal.TheVariants.{BrokenRows, Objective, Slot, RepeatedId, UnequalId, OutOfDomain}
use Rattle.std.specs.Prelude.{Result, Ok, Err}
use mathlib.Core.Path.{◌≡◌}
use mathlib.Core.Bool.{Bool, true, false, ◌&&◌, cond}
use mathlib.Core.List.{List}
use Prim.Native.Nat.{ℕ}
use lib.Dec.{T, leb}
use lib.Ieee.Fits.{and_l, and_r}
use Rattle.arith.specs.Lists.{every}
use Rattle.history_rows.specs.Rows.{whole_rows, row_count, recent_of, row_at}
use Rattle.history_rows.specs.Tests.{row_ok, slots_ok, ids_once, rows_agreeing, first_of, recent_tests, check_of}

-- whether a test holds of each recent row
abbrev pub every_recent : ℕ → List ℕ → (List ℕ → Bool) → Bool
every_recent n h t = every (row_count n (recent_of n h)) (λ i. t (row_at n (recent_of n h) i))

-- the facts that the tests say
pub record Passed (n : ℕ) (h : List ℕ) : Type 0 where
  pub slots-least : T (leb 1 n)
  pub slots-most : T (leb n 20)
  pub whole : T (whole_rows n h)
  pub rows : T (every_recent n h row_ok)
  pub slots : T (every_recent n h (slots_ok n))
  pub ids : T (every_recent n h (ids_once n))
  pub agreeing : T (every_recent n h (λ a. every_recent n h (rows_agreeing n a)))

-- one test, and those after it
pub passes : (b : Bool) (rest : Result Unit Refusal) (r : Refusal) → cond b rest (Err r) ≡ Ok tt → T b × (rest ≡ Ok tt)
passes true rest r e = (tt, e)
passes false rest r e = cc

pub passed : (n : ℕ) (h : List ℕ) → check_of n h ≡ Ok tt → Passed n h
unfolding check_of recent_tests
passed n h e =
    let a = passes (leb 1 n && leb n 20) _ OutOfDomain e in
    let b = passes (whole_rows n h) _ BrokenRows a.1 in
    let c = passes (every_recent n h row_ok) _ Objective b.1 in
    let d = passes (every_recent n h (slots_ok n)) _ Slot c.1 in
    let f = passes (every_recent n h (ids_once n)) _ RepeatedId d.1 in
    let g = passes (every_recent n h (λ a. every_recent n h (rows_agreeing n a))) (Ok tt) UnequalId f.1 in
    record {
      slots-least = and_l (leb 1 n) (leb n 20) a.0;
      slots-most = and_r (leb 1 n) (leb n 20) a.0;
      whole = b.0;
      rows = c.0;
      slots = d.0;
      ids = f.0;
      agreeing = g.0;
    }

-- slots from 1 to 20 and whole rows leave the tests of the recent rows
pub check-recent : (n : ℕ) (h : List ℕ) → leb 1 n ≡ true → leb n 20 ≡ true → whole_rows n h ≡ true
    → check_of n h ≡ first_of (recent_tests n (row_count n (recent_of n h)) (recent_of n h))
unfolding check_of recent_tests
check-recent n h a b c = rw (a, b, c)
