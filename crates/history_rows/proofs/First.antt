-- Every recent slot is like the first one of its id exactly where no two recent slots of one id are unequal. Assumes nothing.
use Rattle.distribution.specs.declared.Distribution.{Distribution}
use Rattle.std.specs.Prelude.{Option, Some, None}
use Prim.Native.Nat.{ℕ, ◌+◌, ◌*◌, ◌≤◌, ◌<◌}
use native.Mathlib.Omega.{arith}
use mathlib.Core.Path.{◌≡◌, refl, ap, ◌∙◌, subst}
use mathlib.Core.Bool.{Bool, not, ◌&&◌}
use mathlib.Core.List.{List, []}
use mathlib.Core.Logic.{inl, inr}
use lib.Dec.{T, T_not, ltb, eqb, eqb→eq, ltb→lt, lt→ltb}
use lib.ListN.{length, take, drop_of_length-le}
use lib.Seq.{take-nil, drop-nil}
use lib.Ieee.Fits.{and_i, and_l, and_r, eq→eqb}
use Rattle.arith.specs.Lists.{every}
use Rattle.arith.proofs.Lists.{every-each, each-every, place_found, place-some, place-most}
use Rattle.arith.proofs.Tests.{either, or_left, or_right, or_split, iff}
use Rattle.distribution_words.specs.Words.{read_of}
use Rattle.distribution.proofs.Equals.{equal-sym, equal-trans}
use Rattle.history_rows.specs.First.{first_row_with, first_slot_with, like_first, row_like_first}
use Rattle.history_rows.specs.Rows.{width_of, row_at, slot_at}
use Rattle.slots.specs.Slot.{id_of, present, same_id, slot_read, reads_equal, agreeing, has_id}
use Rattle.history_rows.specs.Tests.{rows_agreeing}
use Rattle.history_rows.specs.Slots.{slot_with}

-- two that are equal to a third are equal
pub reads_same : (x a b : Option Distribution) → T (reads_equal x a) → T (reads_equal x b) → T (reads_equal a b)
reads_same (Some x) (Some a) (Some b) p q = equal-trans a x b (equal-sym x a p) q
reads_same (Some x) (Some a) None p q = absurd q
reads_same (Some x) None b p q = absurd p
reads_same None a b p q = absurd p

-- slots of one id that agree have equal distributions
pub equal_of : (v w : List ℕ) → T (agreeing v w) → T (same_id v w) → T (reads_equal (slot_read v) (slot_read w))
unfolding agreeing
equal_of v w t s = elim (or_split (not (same_id v w)) (reads_equal (slot_read v) (slot_read w)) t) [ inl e ↦ absurd (T_not (same_id v w) e s) | inr e ↦ e ]

module _ (n m : ℕ) (r : List ℕ) where
  abbrev slot : ℕ → ℕ → List ℕ
  slot i a = slot_at (row_at n r i) a

  -- the first slot of an id that is there
  record Found (id : ℕ) : Type 0 where
    row : first_row_with n m r id < m
    place : slot_with n (row_at n r (first_row_with n m r id)) id < n
    is : T (has_id id (first_slot_with n m r id))

  found : (i a : ℕ) → i < m → a < n → (id : ℕ) → T (has_id id (slot i a)) → Found id
  found i a h k id t =
      let row = some-row (lt→ltb (slot_with n (row_at n r i) id) n (unfold slot_with in place-some n (λ s. has_id id (slot i s)) a k t)) in
      let place = ltb→lt (slot_with n (row_at n r (first_row_with n m r id)) id) n (there row) in
      record { row = row; place = place; is = holds (first_row_with n m r id) place }
    where
      some-row : T (ltb (slot_with n (row_at n r i) id) n) → first_row_with n m r id < m
      some-row q = unfold first_row_with in place-some m (λ j. ltb (slot_with n (row_at n r j) id) n) i h q

      there : first_row_with n m r id < m → T (ltb (slot_with n (row_at n r (first_row_with n m r id)) id) n)
      there q = unfold first_row_with in place_found m (λ j. ltb (slot_with n (row_at n r j) id) n) (unfold first_row_with in q)

      holds : (j : ℕ) → slot_with n (row_at n r j) id < n → T (has_id id (slot j (slot_with n (row_at n r j) id)))
      holds j q = unfold slot_with in place_found n (λ s. has_id id (slot j s)) (unfold slot_with in q)

  -- the first row that has an id has it
  pub first-place : (id : ℕ) → first_row_with n m r id < m → slot_with n (row_at n r (first_row_with n m r id)) id < n
  first-place id l =
      ltb→lt (slot_with n (row_at n r (first_row_with n m r id)) id) n (unfold first_row_with in place_found m (λ j. ltb (slot_with n (row_at n r j) id) n) (unfold first_row_with in l))

  -- where no row has it, nothing is read
  pub none_first : (id : ℕ) → length r ≡ m * width_of n → m ≤ first_row_with n m r id → slot_read (first_slot_with n m r id) ≡ None
  none_first id e l = read-nothing (row_at n r (first_row_with n m r id)) (slot_with n (row_at n r (first_row_with n m r id)) id) (rw q (ap (take (width_of n)) (drop_of_length-le r {i = m * width_of n} (omega arith)) ∙ take-nil (width_of n)))
    where
      q : first_row_with n m r id ≡ m
      q = let k : first_row_with n m r id ≤ m = unfold first_row_with in place-most m (λ j. ltb (slot_with n (row_at n r j) id) n) in omega arith

      read-nothing : (row : List ℕ) (s : ℕ) → row ≡ [] → slot_read (slot_at row s) ≡ None
      read-nothing row s z = rw (z, drop-nil {A = ℕ} (3 + 8 * s), take-nil {A = ℕ} 8) (unfold slot_read read_of in refl)

  abbrev Likes : Bool
  Likes = every m (λ i. row_like_first n m r (row_at n r i))

  abbrev Pairs : Bool
  Pairs = every m (λ i. every m (λ j. rows_agreeing n (row_at n r i) (row_at n r j)))

  like_at : T Likes → (i a : ℕ) → i < m → a < n → T (like_first n m r (slot i a))
  like_at t i a h k = every-each n (λ s. like_first n m r (slot i s)) (unfold row_like_first in every-each m (λ i. row_like_first n m r (row_at n r i)) t i h) a k

  pair-at : T Pairs → (i a j b : ℕ) → i < m → a < n → j < m → b < n → T (agreeing (slot i a) (slot j b))
  pair-at t i a j b h k g l =
      every-each n (λ s. agreeing (slot i a) (slot j s))
      (every-each n (λ a. every n (λ b. agreeing (slot i a) (slot j b)))
      (unfold rows_agreeing in every-each m (λ j. rows_agreeing n (row_at n r i) (row_at n r j)) (every-each m (λ i. every m (λ j. rows_agreeing n (row_at n r i) (row_at n r j))) t i h) j g)
      a k) b l

  -- a present slot equals the first one of its id
  equals-first : (v : List ℕ) → T (like_first n m r v) → T (present v) → T (reads_equal (slot_read (first_slot_with n m r (id_of v))) (slot_read v))
  unfolding like_first
  equals-first v t p = elim (or_split (not (present v)) (reads_equal (slot_read (first_slot_with n m r (id_of v))) (slot_read v)) t) [ inl e ↦ absurd (T_not (present v) e p) | inr e ↦ e ]

  two : (v w : List ℕ) → T (like_first n m r v) → T (like_first n m r w) → T (agreeing v w)
  unfolding agreeing
  two v w p q = elim (either (same_id v w)) [ inl s ↦ or_right (not (same_id v w)) (reads_equal (slot_read v) (slot_read w)) (go s) | inr e ↦ or_left (not (same_id v w)) (reads_equal (slot_read v) (slot_read w)) e ]
    where
      go : T (same_id v w) → T (reads_equal (slot_read v) (slot_read w))
      go s =
          let both = and_l (present v && present w) (eqb (id_of v) (id_of w)) s in
          let pv = and_l (present v) (present w) both in
          let pw = and_r (present v) (present w) both in
          let e = eqb→eq (id_of v) (id_of w) (and_r (present v && present w) (eqb (id_of v) (id_of w)) s) in
          reads_same (slot_read (first_slot_with n m r (id_of w))) (slot_read v) (slot_read w)
          (subst (λ (id : ℕ). T (reads_equal (slot_read (first_slot_with n m r id)) (slot_read v))) e (equals-first v p pv)) (equals-first w q pw)

  pairs : T Likes → T Pairs
  pairs t = each-every m (λ i. every m (λ j. rows_agreeing n (row_at n r i) (row_at n r j))) (λ i h. each-every m (λ j. rows_agreeing n (row_at n r i) (row_at n r j)) (λ j g. rows i h j g))
    where
      rows : (i : ℕ) → i < m → (j : ℕ) → j < m → T (rows_agreeing n (row_at n r i) (row_at n r j))
      rows i h j g = unfold rows_agreeing in each-every n (λ a. every n (λ b. agreeing (slot i a) (slot j b))) (λ a k. each-every n (λ b. agreeing (slot i a) (slot j b)) (λ b l. two (slot i a) (slot j b) (like_at t i a h k) (like_at t j b g l)))

  likes : T Pairs → T Likes
  likes t = each-every m (λ i. row_like_first n m r (row_at n r i)) (λ i h. unfold row_like_first in each-every n (λ s. like_first n m r (slot i s)) (λ a k. one i a h k))
    where
      present-one : (i a : ℕ) → i < m → a < n → T (present (slot i a)) → T (reads_equal (slot_read (first_slot_with n m r (id_of (slot i a)))) (slot_read (slot i a)))
      present-one i a h k p =
          let id = id_of (slot i a) in
          let first = first_slot_with n m r id in
          let f = found i a h k id (and_i (present (slot i a)) (eqb id id) p (eq→eqb {a = id} {b = id} refl)) in
          let q = f.is in
          let both = and_i (present first) (present (slot i a)) (and_l (present first) (eqb (id_of first) id) q) p in
          equal_of first (slot i a) (pair-at t (first_row_with n m r id) (slot_with n (row_at n r (first_row_with n m r id)) id) i a f.row f.place h k)
          (and_i (present first && present (slot i a)) (eqb (id_of first) id) both (and_r (present first) (eqb (id_of first) id) q))

      one : (i a : ℕ) → i < m → a < n → T (like_first n m r (slot i a))
      one i a h k =
          let v = slot i a in
          elim (either (present v)) [
            | inl p ↦ unfold like_first in or_right (not (present v)) (reads_equal (slot_read (first_slot_with n m r (id_of v))) (slot_read v)) (present-one i a h k p)
            | inr e ↦ unfold like_first in or_left (not (present v)) (reads_equal (slot_read (first_slot_with n m r (id_of v))) (slot_read v)) e
          ]

  pub likes-are-pairs : every m (λ i. row_like_first n m r (row_at n r i)) ≡ every m (λ i. every m (λ j. rows_agreeing n (row_at n r i) (row_at n r j)))
  likes-are-pairs = iff Likes Pairs pairs likes
