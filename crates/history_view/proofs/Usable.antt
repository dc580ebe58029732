-- Training data that are accepted meet the fit's domain: the counts, and the size of each value. Assumes nothing.
use Rattle.std.specs.Prelude.{Option, Some, None}
use mathlib.Core.Path.{◌≡◌, refl, sym, ◌∙◌, subst}
use Prim.Native.Nat.{ℕ, ◌*◌, ◌/◌, ◌%◌, ◌≤◌, ◌<◌}
use native.Mathlib.Nat.{le_trans, div-lt_iff_lt-mul, mod-lt}
use native.Mathlib.Omega.{arith}
use mathlib.Core.Bool.{true}
use mathlib.Core.List.{List}
use lib.Dec.{T, le→leb, ltb→lt, eqb, eqb→eq}
use lib.IntN.{pos}
use lib.ListN.{length, get_or, take}
use lib.Ieee.{Float, nan, binary64, le, of_bits}
use lib.Ieee.Bits.{is_true}
use lib.Ieee.Fits.{and_i, eq→eqb}
use Rattle.history_rows.proofs.First.{equal_of}
use Rattle.arith.specs.Bounds.{abs, Within}
use Rattle.arith.specs.Lists.{every, list_of}
use Rattle.arith.proofs.Lists.{grown-length, grown-at, grown-padded-take, every-each, each-every, place_found, places-length, places-at}
use Rattle.arith.proofs.Within as sizes
use Rattle.distribution.specs.declared.Distribution.{Distribution}
use Rattle.distribution.specs.Shape.{power, continuous_of}
use Rattle.distribution.specs.Taken.{taken_of, value_of}
use Rattle.distribution.proofs.Equals.{equal-trans}
use Rattle.distribution.proofs.Facts.{parts}
use Rattle.common.proofs.Facts.{largest}
use Rattle.gp_model.specs.Fit.{fit_domain}
use Rattle.gp_model.specs.Statistics.{all_within}
use Rattle.dimensions.specs.declared.DimensionInfo.{DimensionInfo}
use Rattle.history.specs.declared.Training.{Training}
use Rattle.dimensions.specs.Dimensions.{dimension_at, columns_of}
use Rattle.param_mapping.specs.Mapping.{mapped_of}
use Rattle.history_rows.specs.Rows.{row_count, recent_of, row_at, objective_of, slot_at}
use Rattle.slots.specs.Slot.{id_of, taken_word, present, slot_read, taken_read, slot_ok, reads_equal, agreeing, has_id}
use Rattle.history_rows.specs.Tests.{row_ok, slots_ok, rows_agreeing}
use Rattle.history_rows.specs.Slots.{slot_with}
use Rattle.history.specs.Training.{mapped_place, covers_of, trains_of, column_of, kept_of, x_of, y_of, recent_training}
use Rattle.history_view.specs.Usable.{Usable}
use Rattle.dimensions.proofs.Ok.{dimensions-ok}
use Rattle.param_mapping.proofs.Consumed.{consumed}
use Rattle.param_mapping.proofs.Opened as passing
use Rattle.history_rows.proofs.Passed.{Passed}
use Rattle.history.proofs.FromArray.{training-accepted}
use Rattle.history.proofs.PlaceList.{columns-few}
use Rattle.history_rows.proofs.Recent.{recent-few}
use Rattle.history_view.proofs.Values.{Column, entry-within}

-- ---- slots that passed the tests

-- a well-formed distribution that takes the slot's value
record Taken (v : List ℕ) : Type 0 where
  distribution : Distribution
  is : slot_read v ≡ Some distribution
  taken : T (taken_of distribution (value_of distribution (taken_word v)))

slot-taken : (v : List ℕ) → T (slot_ok v) → T (present v) → Taken v
unfolding slot_ok
slot-taken v t p = go (slot_read v) refl (rw (is_true (present v) p) at t)
  where
    go : (r : Option Distribution) → slot_read v ≡ r → T (taken_read r (taken_word v)) → Taken v
    go (Some d) e t = record { distribution = d; is = e; taken = t }
    go None e t = absurd t

reads-trans : (a b c : Option Distribution) → T (reads_equal a b) → T (reads_equal b c) → T (reads_equal a c)
reads-trans (Some a) (Some b) (Some c) p q = equal-trans a b c p q
reads-trans (Some a) (Some b) None p q = q
reads-trans (Some a) None c p q = absurd p
reads-trans None b c p q = absurd p

-- two slots of one id
agreed : (u v : List ℕ) → T (agreeing u v) → T (present u) → T (present v) → id_of u ≡ id_of v → T (reads_equal (slot_read u) (slot_read v))
agreed u v t p q e = let i : T (eqb (id_of u) (id_of v)) = eq→eqb e in equal_of u v t (search and_i)

-- a row that covers a dimension has a slot of its id
record Covered (n : ℕ) (row : List ℕ) (m : Option ℕ) : Type 0 where
  id : ℕ
  is : m ≡ Some id
  below : mapped_place n row m < n
  present : T (present (slot_at row (mapped_place n row m)))
  under : id_of (slot_at row (mapped_place n row m)) ≡ id

covered : (n : ℕ) (row : List ℕ) (m : Option ℕ) → T (covers_of n row m) → Covered n row m
unfolding covers_of slot_with
covered n row (Some id) t =
    let s = slot_with n row id in
    let l = ltb→lt s n t in
    let h = place_found n (λ s. has_id id (slot_at row s)) l in
    record { id = id; is = refl; below = l; present = search parts; under = eqb→eq (id_of (slot_at row s)) id (search parts) }
covered n row None t = let l = ltb→lt n n t in absurd (omega arith)

-- ---- the fit's domain

all-within : (b : Float) (f : ℕ → Float) (n : ℕ) → ((i : ℕ) → i < n → Within b (f i)) → T (all_within b (list_of f n))
unfolding all_within
all-within b f n h =
    rw (grown-length (λ xs i. f i) n) (each-every n (λ i. le (abs (get_or (list_of f n) i nan)) b) (λ i l. subst (Within b) (sym (grown-at (λ xs i. f i) n i l)) (h i l)))

domain : (x y : List Float) (d : ℕ) → length y ≤ 100 → 1 ≤ d → d ≤ 20 → length x ≡ length y * d → T (all_within largest x) → T (all_within (of_bits binary64 0x4330000000000000) y)
    → fit_domain x y d ≡ true
unfolding fit_domain
domain x y d a b c e p q =
    let s = le→leb (length y) 100 a in
    let t = le→leb 1 d b in
    let u = le→leb d 20 c in
    let v = eq→eqb e in
    is_true _ (search and_i)

-- ---- training data of the recent rows

module _ (n : ℕ) (dims : List DimensionInfo) (k : ℕ) (h : List ℕ) where
  abbrev count : ℕ
  count = row_count n (recent_of n h)

  abbrev row : ℕ → List ℕ
  row i = row_at n (recent_of n h) i

  abbrev mapping : List (Option ℕ)
  mapping = mapped_of n dims k (row 0)

  abbrev columns : List ℕ
  columns = columns_of dims k

  abbrev kept : List ℕ
  kept = kept_of n mapping columns (recent_of n h)

  columns-at : (c : ℕ) → c < length columns → (get_or columns c 0 < k) × T (continuous_of (dimension_at dims (get_or columns c 0)).distribution)
  unfolding columns_of
  columns-at c l = places-at k (λ j. continuous_of (dimension_at dims j).distribution) c l

  kept_at : (c : ℕ) → c < length kept → (get_or kept c 0 < count) × T (trains_of n mapping columns (row (get_or kept c 0)))
  unfolding kept_of
  kept_at c l = places-at count (λ i. trains_of n mapping columns (row i)) c l

  module _ (p : Passed n h) where
    kept-few : length kept ≤ 100
    unfolding kept_of
    kept-few = le_trans (places-length count (λ i. trains_of n mapping columns (row i))) (recent-few n h p.whole)

    slot_ok_lem : (i s : ℕ) → i < count → s < n → T (slot_ok (slot_at (row i) s))
    unfolding slots_ok
    slot_ok_lem i s l m = every-each n (λ s. slot_ok (slot_at (row i) s)) (every-each count (λ i. slots_ok n (row i)) p.slots i l) s m

    slots-agree : (i j a b : ℕ) → i < count → j < count → a < n → b < n → T (agreeing (slot_at (row i) a) (slot_at (row j) b))
    unfolding rows_agreeing
    slots-agree i j a b li lj la lb =
        let s = every-each count (λ i. every count (λ j. rows_agreeing n (row i) (row j))) p.agreeing i li in
        let t = every-each count (λ j. rows_agreeing n (row i) (row j)) s j lj in
        let u = every-each n (λ a. every n (λ b. agreeing (slot_at (row i) a) (slot_at (row j) b))) t a la in
        every-each n (λ b. agreeing (slot_at (row i) a) (slot_at (row j) b)) u b lb

    -- |y| ≤ 2^52
    objective-within : (i : ℕ) → i < count → Within (of_bits binary64 0x4330000000000000) (of_bits binary64 (objective_of (row i)))
    unfolding row_ok
    objective-within i l =
        let t = every-each count (λ i. row_ok (row i)) p.rows i l in
        let e : of_bits binary64 0x4330000000000000 ≡ power (pos 52) = unfold of_bits in refl in
        rw e (sizes.within (power (pos 52)) (of_bits binary64 (objective_of (row i))) (search parts) (search parts))

    module _ (column : (j : ℕ) → j < k → T (continuous_of (dimension_at dims j).distribution) → Column (dimension_at dims j)) where
      -- |x| ≤ 1e32: the slot's distribution equals that of a slot of row 0, which equals the dimension's
      column-within : (i : ℕ) → i < count → T (trains_of n mapping columns (row i)) → (c : ℕ) → c < length columns → Within largest (column_of n dims mapping (row i) (get_or columns c 0))
      unfolding column_of trains_of
      column-within i l t c m =
          let j = get_or columns c 0 in
          let q = columns-at c m in
          let o = covered n (row i) (get_or mapping j None) (every-each (length columns) (λ c. covers_of n (row i) (get_or mapping (get_or columns c 0) None)) t c m) in
          let a = consumed n dims k (row 0) j q.0 o.id o.is in
          let s = mapped_place n (row i) (get_or mapping j None) in
          let u = slot_at (row 0) a.place in
          let v = slot_at (row i) s in
          let g = agreed u v (slots-agree 0 i a.place s (omega arith) l a.below o.below) a.present o.present (a.under ∙ sym o.under) in
          let r = slot-taken v (slot_ok_lem i s l o.below) o.present in
          let d = Some (dimension_at dims j).distribution in
          entry-within (dimension_at dims j) (column j q.0 q.1) v r.distribution r.is r.taken (subst (λ (x : Option Distribution). T (reads_equal d x)) r.is (reads-trans d (slot_read u) (slot_read v) a.equal g))

      recent-usable : k ≤ 20 → let t = recent_training n dims k (recent_of n h) in 1 ≤ t.d → fit_domain (take (t.n * t.d) t.x) (take t.n t.y) t.d ≡ true
      unfolding recent_training x_of y_of
      recent-usable most least =
          let d = length columns in
          let x : ℕ → Float = λ p. column_of n dims mapping (row (get_or kept (p / d) 0)) (get_or columns (p % d) 0) in
          let y : ℕ → Float = λ c. of_bits binary64 (objective_of (row (get_or kept c 0))) in
          let lx = grown-length (λ xs p. x p) (length kept * d) in
          let ly = grown-length (λ xs c. y c) (length kept) in
          rw (grown-padded-take 2000 (λ xs p. x p) (length kept * d), grown-padded-take 100 (λ xs c. y c) (length kept))
          (domain (list_of x (length kept * d)) (list_of y (length kept)) d (rw ly kept-few) least (le_trans (columns-few dims k) most) (rw (lx, ly))
          (all-within largest x (length kept * d) (λ p l.
          let a = kept_at (p / d) ((div-lt_iff_lt-mul least).1 l) in
          column-within (get_or kept (p / d) 0) a.0 a.1 (p % d) (mod-lt p least)))
          (all-within (of_bits binary64 0x4330000000000000) y (length kept) (λ c l. objective-within (get_or kept c 0) (kept_at c l).0)))

-- ---- training data that are accepted

pub usable : Usable
usable = record {
  fits = λ n dims k h held fit t e least.
      let a = training-accepted n dims k h t e in
      let b = passing.accepted n dims k h a.0 in
      let o = dimensions-ok dims k b.0 in
      subst (λ (t : Training). 1 ≤ t.d → fit_domain (take (t.n * t.d) t.x) (take t.n t.y) t.d ≡ true) (sym a.1)
      (recent-usable n dims k h b.1 (λ j l c. record { ok = o.1 j l; continuous = c; held = held j l; lo-fits = (fit j l).0; hi-fits = (fit j l).1 }) o.0) least;
}
