-- Histories that agree have the same answer of the tests, mapping, training data and view, and older words are not read. Assumes nothing.
use Rattle.refusal.specs.declared.Refusal.{Refusal}
use Rattle.refusal.specs.declared.Refusal.TheVariants.{OutOfDomain, BrokenRows}
use Rattle.std.specs.Prelude.{Option, None, Result, Ok, Err}
use Rattle.std.specs.Result.{result_and}
use Rattle.history.specs.declared.Training.{Training}
use Rattle.history.proofs.FromArray.{training-accepted}
use mathlib.Core.Path.{◌≡◌, refl, sym, ap, ◌∙◌}
use mathlib.Core.Bool.{◌&&◌, cond}
use mathlib.Core.List.{List, ◌∷◌}
use mathlib.Core.Logic.{inl, inr}
use Prim.Native.Nat.{ℕ, ◌*◌, ◌/◌, ◌%◌, ◌<◌}
use native.Mathlib.Nat.{eq-zero-or-pos}
use lib.Dec.{T, T_not, leb}
use lib.ListN.{length, get_or}
use lib.Ieee.{binary64, of_bits}
use lib.Ieee.Bits.{is_true, is_false}
use Rattle.arith.specs.Lists.{every, filled, places_of}
use Rattle.arith.proofs.Lists.{every-same, every-each, list_same, places_same}
use Rattle.dimensions.specs.declared.DimensionInfo.{DimensionInfo}
use Rattle.dimensions.specs.Dimensions.{dimensions_ok, columns_of}
use Rattle.history_rows.specs.Rows.{whole_rows, row_count, recent_of, row_at}
use Rattle.history_rows.specs.Tests.{first_of, row_ok, slots_ok, ids_once, rows_agreeing, recent_tests, check_of}
use Rattle.param_mapping.specs.Mapping.{mapped_of, asked_of, mapping_of}
use Rattle.history.specs.Training.{trains_of, column_of, kept_of, x_of, y_of, built_of, recent_training, training_of}
use Rattle.history_view.specs.View.{reaches_of, viewed, view_of}
use Rattle.history.specs.RowsAgree.{RowsAgree}
use Rattle.history_view.proofs.Generous.{same-recent, recent-agree}
use Rattle.history_view.specs.Agree.{WholeAgree, Agree, OrderFree, OlderUnread}
use Rattle.history.proofs.KeptRows.{cell, kept_row, kept-covers}
use Rattle.param_mapping.proofs.Opened.{accepted}
use Rattle.history_rows.proofs.Passed.{Passed}
use Rattle.history_rows.proofs.Recent.{recent-none}
use Rattle.history.proofs.SameRow.{row_same, slots_same, ids-same, trains-same, mapped-same, column-same, agreeing-same}

-- ---- the tests

recent-same : (n m : ℕ) (r s : List ℕ) → ((i : ℕ) → i < m → RowsAgree n (row_at n r i) (row_at n s i)) → recent_tests n m r ≡ recent_tests n m s
unfolding recent_tests
recent-same n m r s rows =
    rw (
      every-same m (λ i. row_ok (row_at n r i)) (λ i. row_ok (row_at n s i)) (λ i l. row_same n (row_at n r i) (row_at n s i) (rows i l)),
      every-same m (λ i. slots_ok n (row_at n r i)) (λ i. slots_ok n (row_at n s i)) (λ i l. slots_same n (row_at n r i) (row_at n s i) (rows i l)),
      every-same m (λ i. ids_once n (row_at n r i)) (λ i. ids_once n (row_at n s i)) (λ i l. ids-same n (row_at n r i) (row_at n s i) (rows i l)),
      every-same m (λ i. every m (λ j. rows_agreeing n (row_at n r i) (row_at n r j))) (λ i. every m (λ j. rows_agreeing n (row_at n s i) (row_at n s j)))
          (λ i l. every-same m _ _ (λ j k. agreeing-same n (row_at n r i) (row_at n s i) (row_at n r j) (row_at n s j) (rows i l) (rows j k))),
    )

-- the definition of the tests' answer, with the tests left as they are
refusal_is : (n : ℕ) (h : List ℕ) → check_of n h ≡ first_of ((OutOfDomain, leb 1 n && leb n 20) ∷ (BrokenRows, whole_rows n h) ∷ recent_tests n (row_count n (recent_of n h)) (recent_of n h))
unfolding check_of
refusal_is n h = refl

refusal-same : (n startup : ℕ) (g h : List ℕ) → Agree n startup g h → check_of n g ≡ check_of n h
refusal-same n startup g h (inl q) = rw (refusal_is n g, refusal_is n h, is_false (whole_rows n g) q.0, is_false (whole_rows n h) q.1)
refusal-same n startup g h (inr w) =
    rw (
      refusal_is n g,
      refusal_is n h,
      is_true (whole_rows n g) w.whole.0,
      is_true (whole_rows n h) w.whole.1,
      recent-same n (row_count n (recent_of n g)) (recent_of n g) (recent_of n h) w.rows,
      w.many,
    )

-- ---- what follows where their answer is the same

-- an answer after a first one
by_answer : {X : Type 0} (a b : Result Unit Refusal) (x y : X) → a ≡ b → (a ≡ Ok tt → x ≡ y) → result_and a (Ok x) ≡ result_and b (Ok y)
by_answer a b x y e f = rw (← e) (go a f)
  where
    go : (a : Result Unit Refusal) → (a ≡ Ok tt → x ≡ y) → result_and a (Ok x) ≡ result_and a (Ok y)
    go (Ok u) f = ap Ok (f refl)
    go (Err r) f = refl

module _ (n : ℕ) (dims : List DimensionInfo) (k : ℕ) (g h : List ℕ) (refusal : check_of n g ≡ check_of n h) where
  asked-by : asked_of n dims k g ≡ asked_of n dims k h
  unfolding asked_of
  asked-by = ap (λ m. cond (dimensions_ok dims k) m (Err OutOfDomain)) refusal

  mapping-by : (Passed n g → mapped_of n dims k (row_at n (recent_of n g) 0) ≡ mapped_of n dims k (row_at n (recent_of n h) 0)) → mapping_of n dims k g ≡ mapping_of n dims k h
  unfolding mapping_of
  mapping-by f = by_answer (asked_of n dims k g) (asked_of n dims k h) _ _ asked-by (λ e. ap (λ m. filled None 20 m) (f (accepted n dims k g e).1))

  training-by : (Passed n g → recent_training n dims k (recent_of n g) ≡ recent_training n dims k (recent_of n h)) → training_of n dims k g ≡ training_of n dims k h
  unfolding training_of
  training-by f = by_answer (asked_of n dims k g) (asked_of n dims k h) _ _ asked-by (λ e. f (accepted n dims k g e).1)

-- ---- the training data of recent rows that agree

module _
    (n : ℕ) (r s : List ℕ) (many : row_count n r ≡ row_count n s)
    (rows : (i : ℕ) → i < row_count n r → RowsAgree n (row_at n r i) (row_at n s i)) (ids : (i : ℕ) → i < row_count n r → T (ids_once n (row_at n r i))) where
  module _ (mapping : List (Option ℕ)) (columns : List ℕ) where
    kept_same : kept_of n mapping columns r ≡ kept_of n mapping columns s
    unfolding kept_of
    kept_same =
        places_same (row_count n r) _ _ (λ i l. trains-same n (row_at n r i) (row_at n s i) (rows i l) mapping columns)
        ∙ ap (λ m. places_of m (λ i. trains_of n mapping columns (row_at n s i))) many

    abbrev kept : List ℕ
    kept = kept_of n mapping columns r

    x-same : (dims : List DimensionInfo) → x_of n dims mapping columns r kept ≡ x_of n dims mapping columns s kept
    unfolding x_of
    x-same dims = list_same _ _ (length kept * length columns) one
      where
        one : (p : ℕ) → p < length kept * length columns
            → let i = get_or kept (p / length columns) 0 in let j = get_or columns (p % length columns) 0 in column_of n dims mapping (row_at n r i) j ≡ column_of n dims mapping (row_at n s i) j
        one p l =
            let q = cell p (length kept) (length columns) l in
            let i = kept_row n mapping columns r (p / length columns) q.0 in
            column-same n _ _ (rows _ i) (ids _ i) dims mapping (get_or columns (p % length columns) 0) (kept-covers n mapping columns r (p / length columns) q.0 (p % length columns) q.1)

    y-same : y_of n r kept ≡ y_of n s kept
    unfolding y_of
    y-same = list_same _ _ (length kept) (λ c l. ap (λ w. of_bits binary64 w) (rows _ (kept_row n mapping columns r c l)).objective)

    built-same : (dims : List DimensionInfo) → built_of n dims mapping columns r kept ≡ built_of n dims mapping columns s (kept_of n mapping columns s)
    built-same dims = rw (← kept_same, x-same dims, y-same)

  recent-training : (dims : List DimensionInfo) (k : ℕ) → mapped_of n dims k (row_at n r 0) ≡ mapped_of n dims k (row_at n s 0) → recent_training n dims k r ≡ recent_training n dims k s
  recent-training dims k e =
      training-is r ∙ ap (λ m. built_of n dims m (columns_of dims k) r (kept_of n m (columns_of dims k) r)) e
      ∙ built-same (mapped_of n dims k (row_at n s 0)) (columns_of dims k) dims ∙ sym (training-is s)
    where
      training-is : (r : List ℕ) → recent_training n dims k r ≡ (let mapping = mapped_of n dims k (row_at n r 0) in built_of n dims mapping (columns_of dims k) r (kept_of n mapping (columns_of dims k) r))
      training-is r = unfold recent_training in refl

-- ---- two histories that agree

module _ (n startup : ℕ) (g h : List ℕ) (agree : Agree n startup g h) where
  -- one of which passed the tests
  module _ (p : Passed n g) where
    both-whole : WholeAgree n startup g h
    both-whole = elim agree [ inl q ↦ absurd (T_not (whole_rows n g) q.0 p.whole) | inr w ↦ w ]

    ids : (i : ℕ) → i < row_count n (recent_of n g) → T (ids_once n (row_at n (recent_of n g) i))
    ids = every-each (row_count n (recent_of n g)) _ p.ids

    -- the first recent rows, where there are any
    first-same : (dims : List DimensionInfo) (k : ℕ) → mapped_of n dims k (row_at n (recent_of n g) 0) ≡ mapped_of n dims k (row_at n (recent_of n h) 0)
    first-same dims k = elim (eq-zero-or-pos (row_count n (recent_of n g))) [
      | inl z ↦ rw (recent-none n g both-whole.whole.0 z, recent-none n h both-whole.whole.1 (sym both-whole.many ∙ z))
      | inr l ↦ mapped-same n _ _ (both-whole.rows 0 l) (ids 0 l) dims k
    ]

  module _ (dims : List DimensionInfo) (k : ℕ) where
    mapping-same : mapping_of n dims k g ≡ mapping_of n dims k h
    mapping-same = mapping-by n dims k g h (refusal-same n startup g h agree) (λ p. first-same p dims k)

    training-same : training_of n dims k g ≡ training_of n dims k h
    training-same =
        training-by n dims k g h (refusal-same n startup g h agree)
        (λ p. recent-training n (recent_of n g) (recent_of n h) (both-whole p).many (both-whole p).rows (ids p) dims k (first-same p dims k))

    view-same : view_of n startup dims k g ≡ view_of n startup dims k h
    unfolding view_of
    view-same = go (training_of n dims k g) refl ∙ ap (viewed (reaches_of n startup h)) training-same
      where
        go : (r : Result Training Refusal) → training_of n dims k g ≡ r → viewed (reaches_of n startup g) r ≡ viewed (reaches_of n startup h) r
        go (Ok t) e = rw ((both-whole (accepted n dims k g (training-accepted n dims k g t e).0).1).reach)
        go (Err r) e = refl

pub order-free : OrderFree
order-free =
    record {
      refusal = refusal-same;
      mapping = λ n startup dims k g h a. mapping-same n startup g h a dims k;
      training = λ n startup dims k g h a. training-same n startup g h a dims k;
      view = λ n startup dims k g h a. view-same n startup g h a dims k;
    }

-- ---- older words

pub older-unread : OlderUnread
older-unread =
    record {
      refusal = λ n g h r. order-free.refusal n 0 g h (recent-agree n g h r);
      mapping = λ n dims k g h r. order-free.mapping n 0 dims k g h (recent-agree n g h r);
      training = λ n dims k g h r. order-free.training n 0 dims k g h (recent-agree n g h r);
      view = λ n startup dims k g h r s. order-free.view n startup dims k g h (same-recent n startup g h r s);
    }
