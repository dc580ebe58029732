-- Rows within their words, and how many the recent ones are. Assumes nothing.
use Prim.Native.Nat.{ℕ, ◌+◌, ◌-◌, ◌*◌, ◌/◌, ◌%◌, ◌≤◌, ◌<◌}
use mathlib.Core.Path.{◌≡◌, refl, sym, ap, ◌∙◌}
use mathlib.Core.Bool.{Bool, true, false, cond}
use mathlib.Core.List.{List, [], ◌∷◌}
use native.Mathlib.Nat.{div-add-mod', mul-div_cancel, div-mul-le_self, add-mul}
use native.Mathlib.Omega.{arith}
use lib.Dec.{T, leb, eqb→eq}
use lib.ListN.{length, take, drop, length-drop}
use lib.Seq.{take_all}
use borrow.Author.Tests.{leb-true, leb-false}
use Rattle.history_rows.specs.Rows.{width_of, whole_rows, row_count, recent_count, older_of, recent_of}

-- whole rows fill their words
pub whole_length : (n : ℕ) (h : List ℕ) → T (whole_rows n h) → length h ≡ row_count n h * width_of n
unfolding whole_rows row_count
whole_length n h t = let e = eqb→eq (length h % width_of n) 0 t in let d = div-add-mod' (length h) (width_of n) in omega arith

-- the recent rows are at most 100, and at most all
pub recent-most : (n : ℕ) (h : List ℕ) → (recent_count n h ≤ 100) × (recent_count n h ≤ row_count n h)
unfolding recent_count
recent-most n h = go (leb (row_count n h) 100) refl
  where
    go : (b : Bool) → leb (row_count n h) 100 ≡ b → (cond b (row_count n h) 100 ≤ 100) × (cond b (row_count n h) 100 ≤ row_count n h)
    go true e = let l = leb-true (row_count n h) 100 e in (omega arith, omega arith)
    go false e = let l = leb-false (row_count n h) 100 e in (omega arith, omega arith)

-- all words are the older and the recent ones
words-split : (n : ℕ) (h : List ℕ) → row_count n h * width_of n ≡ older_of n h + recent_count n h * width_of n
words-split n h =
    let l = (recent-most n h).1 in
    let e : row_count n h ≡ (row_count n h - recent_count n h) + recent_count n h = omega arith in
    ap (λ (k : ℕ). k * width_of n) e ∙ add-mul (row_count n h - recent_count n h) (recent_count n h) (width_of n)

pub older_inside : (n : ℕ) (h : List ℕ) → older_of n h ≤ length h
older_inside n h =
    let e = words-split n h in
    let d : row_count n h * width_of n ≤ length h = unfold row_count in div-mul-le_self (length h) (width_of n) in
    omega arith

recent-length : (n : ℕ) (h : List ℕ) → T (whole_rows n h) → length (recent_of n h) ≡ recent_count n h * width_of n
unfolding recent_of
recent-length n h t = let e = words-split n h in let l = whole_length n h t in length-drop (older_of n h) h ∙ omega arith

pub recent-rows : (n : ℕ) (h : List ℕ) → T (whole_rows n h) → row_count n (recent_of n h) ≡ recent_count n h
unfolding row_count
recent-rows n h t = ap (λ (k : ℕ). k / width_of n) (recent-length n h t) ∙ mul-div_cancel (recent_count n h) (let l : 0 < width_of n = omega arith in l)

pub recent-few : (n : ℕ) (h : List ℕ) → T (whole_rows n h) → row_count n (recent_of n h) ≤ 100
recent-few n h t = rw (recent-rows n h t) (recent-most n h).0

pub recent-whole : (n : ℕ) (h : List ℕ) → T (whole_rows n h) → length (recent_of n h) ≡ row_count n (recent_of n h) * width_of n
recent-whole n h t = recent-length n h t ∙ ap (λ (k : ℕ). k * width_of n) (sym (recent-rows n h t))

-- with no row there is no word
pub recent-none : (n : ℕ) (h : List ℕ) → T (whole_rows n h) → row_count n (recent_of n h) ≡ 0 → recent_of n h ≡ []
recent-none n h t e = go (recent_of n h) (recent-whole n h t ∙ rw e)
  where
    go : (r : List ℕ) → length r ≡ 0 * width_of n → r ≡ []
    go [] l = refl
    go (x ∷ r) l = absurd (omega arith)

-- the part that the code lends
pub recent-part : (n : ℕ) (h : List ℕ) (start : ℕ) → start ≡ older_of n h → take (length h - start) (drop start h) ≡ recent_of n h
unfolding recent_of
recent-part n h start e = take_all (length h - start) (drop start h) (rw (length-drop start h) (omega arith)) ∙ ap (λ (k : ℕ). drop k h) e

pub recent-part-rows : (n : ℕ) (h : List ℕ) (start : ℕ) → start ≡ older_of n h → (length h - start) / width_of n ≡ row_count n (recent_of n h)
unfolding row_count recent_of
recent-part-rows n h start e = ap (λ (k : ℕ). (length h - k) / width_of n) e ∙ ap (λ (k : ℕ). k / width_of n) (sym (length-drop (older_of n h) h))

-- the older words, by the rows above 100
pub older_saturates : (n : ℕ) (h : List ℕ) → (length h / width_of n - 100) * width_of n ≡ older_of n h
unfolding row_count recent_count
older_saturates n h = ap (λ (k : ℕ). k * width_of n) (go (leb (length h / width_of n) 100) refl)
  where
    go : (b : Bool) → leb (length h / width_of n) 100 ≡ b → length h / width_of n - 100 ≡ length h / width_of n - cond b (length h / width_of n) 100
    go true e = let l = leb-true (length h / width_of n) 100 e in omega arith
    go false e = refl
