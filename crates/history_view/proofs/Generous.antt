-- Agreement asks for no more than its words: any older rows, any rows that agree one by one, any trial number, valid state and order of slots. Assumes nothing.
use Rattle.std.specs.List.{flat_map}
use mathlib.Core.Path.{◌≡◌, refl, sym, ap, ap₂, ◌∙◌, subst}
use mathlib.Core.Bool.{Bool, true, false, cond}
use mathlib.Core.List.{List, [], ◌∷◌, ◌++◌, Permᴰ}
use mathlib.Core.List.Permᴰ
use mathlib.Core.Logic.{◌⊎◌, inl, inr}
use Prim.Native.Nat.{ℕ, zero, suc, ◌+◌, ◌-◌, ◌*◌, ◌/◌, ◌%◌, ◌≤◌, ◌<◌}
use native.Mathlib.Nat.{mul-div_cancel, mul_comm, add-mul, add-mul-mod_self_left}
use native.Mathlib.Omega.{arith}
use lib.Dec.{T, T_not, leb, eqb}
use lib.ListN.{length, get_or, take, drop, length-drop, length-append}
use lib.Seq.{drop-drop, drop-append_seam, drop-append-add, take-append_seam, ext_get_or}
use borrow.Author.Tests.{leb-true, le-leb}
use Rattle.arith.proofs.Lists.{grown-length, grown-read}
use Rattle.arith.proofs.Tests.{taken, untaken}
use Rattle.history_rows.specs.Rows.{width_of, whole_rows, row_count, recent_count, older_of, recent_of, row_at, slot_at, slots_of, state_of}
use Rattle.history_rows.proofs.Recent.{whole_length, older_inside, recent-most, recent-rows}
use Rattle.history.specs.RowsAgree.{RowsAgree}
use Rattle.history_view.specs.Agree.{Agree, are_slots, row_of, Generous}

-- ---- rows

rows-itself : (n : ℕ) (a : List ℕ) → RowsAgree n a a
rows-itself n a = record { objective = refl; state = inl refl; slots = Permᴰ.refl (slots_of n a) }

rows-turned : (n : ℕ) (a b : List ℕ) → RowsAgree n a b → RowsAgree n b a
rows-turned n a b p =
    record {
      objective = sym p.objective;
      state = elim p.state [ inl e ↦ inl (sym e) | inr q ↦ inr (q.1, q.0) ];
      slots = Permᴰ.symm p.slots;
    }

rows-joined : (n : ℕ) (a b c : List ℕ) → RowsAgree n a b → RowsAgree n b c → RowsAgree n a c
rows-joined n a b c p q =
    record {
      objective = p.objective ∙ q.objective;
      state = states p.state q.state;
      slots = Permᴰ.trans p.slots q.slots;
    }
  where
    valid : ℕ → ℕ → Type 0
    valid x y = (x ≤ 3) × (y ≤ 3)

    states : (state_of a ≡ state_of b) ⊎ ((state_of a ≤ 3) × (state_of b ≤ 3)) → (state_of b ≡ state_of c) ⊎ ((state_of b ≤ 3) × (state_of c ≤ 3)) → (state_of a ≡ state_of c) ⊎ ((state_of a ≤ 3) × (state_of c ≤ 3))
    states (inl d) (inl e) = inl (d ∙ e)
    states (inl d) (inr e) = inr (omega arith, e.1)
    states (inr d) (inl e) = inr (d.0, omega arith)
    states (inr d) (inr e) = inr (d.0, e.1)

-- the slots of a row of parts
part_at : (slots : List (List ℕ)) (s : ℕ) → ((s : ℕ) → s < length slots → length (get_or slots s []) ≡ 8) → s < length slots → take 8 (drop (8 * s) (flat_map (λ slot. slot) slots)) ≡ get_or slots s []
part_at [] s f l = absurd (omega arith)
part_at (x ∷ xs) zero f l = let e = f 0 (omega arith) in subst (λ k. take k (x ++ flat_map (λ slot. slot) xs) ≡ x) e (take-append_seam x (flat_map (λ slot. slot) xs))
part_at (x ∷ xs) (suc s) f l =
    let e = f 0 (omega arith) in
    ap (λ k. take 8 (drop k (x ++ flat_map (λ slot. slot) xs))) (let a : 8 * suc s ≡ length x + 8 * s = omega arith in a)
    ∙ ap (take 8) (drop-append-add x (flat_map (λ slot. slot) xs) (8 * s))
    ∙ part_at xs s (λ t k. f (suc t) (omega arith)) (omega arith)

slots-are : (n trial state objective : ℕ) (slots : List (List ℕ)) → are_slots n slots → slots_of n (row_of trial state objective slots) ≡ slots
slots-are n trial state objective slots a =
    let row = row_of trial state objective slots in
    let m = grown-length (λ xs s. slot_at row s) n in
    ext_get_or [] (slots_of n row) slots (m ∙ sym a.0)
    (λ s l. let b : s < n = omega arith in grown-read (λ xs s. slot_at row s) n s [] b ∙ ap (take 8) (drop-append-add (trial ∷ state ∷ objective ∷ []) (flat_map (λ slot. slot) slots) (8 * s)) ∙ part_at slots s (λ t k. a.1 t (omega arith)) (omega arith))

rows-of-parts : (n trial other state another objective : ℕ) (slots permuted : List (List ℕ)) → are_slots n slots → are_slots n permuted → (state ≡ another) ⊎ ((state ≤ 3) × (another ≤ 3)) → Permᴰ slots permuted
    → RowsAgree n (row_of trial state objective slots) (row_of other another objective permuted)
rows-of-parts n trial other state another objective slots permuted a b s p =
    record {
      objective = refl;
      state = s;
      slots = rw (slots-are n trial state objective slots a, slots-are n other another objective permuted b) p;
    }

-- ---- whole histories

itself : (n startup : ℕ) (h : List ℕ) → Agree n startup h h
itself n startup h = go (whole_rows n h) refl
  where
    go : (b : Bool) → whole_rows n h ≡ b → Agree n startup h h
    go true e = inr (record { whole = (taken e, taken e); reach = refl; many = refl; rows = λ i l. rows-itself n (row_at n (recent_of n h) i) })
    go false e = inl (untaken e, untaken e)

turned : (n startup : ℕ) (g h : List ℕ) → Agree n startup g h → Agree n startup h g
turned n startup g h (inl q) = inl (q.1, q.0)
turned n startup g h (inr w) =
    inr
    (record {
      whole = (w.whole.1, w.whole.0);
      reach = sym w.reach;
      many = sym w.many;
      rows = λ i l. rows-turned n (row_at n (recent_of n g) i) (row_at n (recent_of n h) i) (w.rows i (rw (w.many) l));
    })

joined : (n startup : ℕ) (f g h : List ℕ) → Agree n startup f g → Agree n startup g h → Agree n startup f h
joined n startup f g h (inl p) (inl q) = inl (p.0, q.1)
joined n startup f g h (inl p) (inr w) = absurd (T_not (whole_rows n g) p.1 w.whole.0)
joined n startup f g h (inr v) (inl q) = absurd (T_not (whole_rows n g) q.0 v.whole.1)
joined n startup f g h (inr v) (inr w) =
    inr
    (record {
      whole = (v.whole.0, w.whole.1);
      reach = v.reach ∙ w.reach;
      many = v.many ∙ w.many;
      rows = λ i l. rows-joined n (row_at n (recent_of n f) i) (row_at n (recent_of n g) i) (row_at n (recent_of n h) i) (v.rows i l) (w.rows i (rw (← v.many) l));
    })

-- ---- the same recent rows

-- the recent rows are whole where the history is
recent-alike : (n : ℕ) (h : List ℕ) → whole_rows n (recent_of n h) ≡ whole_rows n h
unfolding whole_rows recent_of
recent-alike n h =
    let o = row_count n h - recent_count n h in
    let l = older_inside n h in
    let c = mul_comm o (width_of n) in
    let e : length h ≡ (length h - older_of n h) + width_of n * o = omega arith in
    ap (λ k. eqb (k % width_of n) 0) (length-drop (older_of n h) h)
    ∙ ap (λ k. eqb k 0) (sym (ap (λ k. k % width_of n) e ∙ add-mul-mod_self_left (length h - older_of n h) (width_of n) o))

-- where both or neither reach start-up
pub same-recent : (n startup : ℕ) (g h : List ℕ) → recent_of n g ≡ recent_of n h → leb startup (row_count n g) ≡ leb startup (row_count n h) → Agree n startup g h
same-recent n startup g h r s = go (whole_rows n g) refl
  where
    alike : whole_rows n g ≡ whole_rows n h
    alike = sym (recent-alike n g) ∙ ap (whole_rows n) r ∙ recent-alike n h

    go : (b : Bool) → whole_rows n g ≡ b → Agree n startup g h
    go true e =
        inr
        (record {
          whole = (taken e, taken (sym alike ∙ e));
          reach = s;
          many = ap (row_count n) r;
          rows = λ i l. subst (λ r. RowsAgree n (row_at n (recent_of n g) i) (row_at n r i)) r (rows-itself n (row_at n (recent_of n g) i));
        })
    go false e = inl (untaken e, untaken (sym alike ∙ e))

-- where no start-up is asked for
pub recent-agree : (n : ℕ) (g h : List ℕ) → recent_of n g ≡ recent_of n h → Agree n 0 g h
recent-agree n g h r = same-recent n 0 g h r (le-leb 0 (row_count n g) (omega arith) ∙ sym (le-leb 0 (row_count n h) (omega arith)))

-- ---- older rows before a hundred recent ones

behind-older : (n : ℕ) (old recent : List ℕ) → T (whole_rows n old) → T (whole_rows n recent) → row_count n recent ≡ 100 → recent_of n (old ++ recent) ≡ recent
unfolding recent_of
behind-older n old recent a b c = ap (λ k. drop k (old ++ recent)) older ∙ drop-append_seam old recent
  where
    total : length (old ++ recent) ≡ (row_count n old + 100) * width_of n
    total =
        let p = whole_length n old a in
        let q = whole_length n recent b in
        let d = add-mul (row_count n old) 100 (width_of n) in
        length-append old recent ∙ ap₂ (λ j k. j + k) p (q ∙ ap (λ k. k * width_of n) c) ∙ sym d

    count : row_count n (old ++ recent) ≡ row_count n old + 100
    count = (unfold row_count in ap (λ k. k / width_of n) total) ∙ mul-div_cancel (row_count n old + 100) (let l : 0 < width_of n = omega arith in l)

    left : (m : ℕ) → m ≡ row_count n old + 100 → m - cond (leb m 100) m 100 ≡ row_count n old
    left m e = go (leb m 100) refl
      where
        go : (b : Bool) → leb m 100 ≡ b → m - cond b m 100 ≡ row_count n old
        go true t = let l = leb-true m 100 t in omega arith
        go false t = omega arith

    older : older_of n (old ++ recent) ≡ length old
    older = ap (λ k. k * width_of n) (unfold recent_count in left (row_count n (old ++ recent)) count) ∙ sym (whole_length n old a)

-- ---- as many rows, one by one

row-recent : (n : ℕ) (h : List ℕ) (i : ℕ) → row_at n (recent_of n h) i ≡ row_at n h (row_count n h - recent_count n h + i)
unfolding recent_of
row-recent n h i = ap (take (width_of n)) (drop-drop (i * width_of n) (older_of n h) h ∙ ap (λ k. drop k h) (sym (add-mul (row_count n h - recent_count n h) i (width_of n))))

by-rows : (n startup : ℕ) (g h : List ℕ) → T (whole_rows n g) → T (whole_rows n h) → row_count n g ≡ row_count n h → ((i : ℕ) → i < row_count n g → RowsAgree n (row_at n g i) (row_at n h i)) → Agree n startup g h
by-rows n startup g h a b c rows =
    inr
    (record {
      whole = (a, b);
      reach = ap (leb startup) c;
      many = recent-rows n g a ∙ counts ∙ sym (recent-rows n h b);
      rows = λ i l.
          let k = row_count n g - recent_count n g + i in
          let m = recent-rows n g a in
          let most = recent-most n g in
          let d = counts in
          let j : row_count n h - recent_count n h + i ≡ k = omega arith in
          rw (row-recent n g i, row-recent n h i, j) (rows k (omega arith));
    })
  where
    counts : recent_count n g ≡ recent_count n h
    counts = unfold recent_count in ap (λ m. cond (leb m 100) m 100) c

pub generous : Generous
generous =
    record {
      older = λ n startup old older recent a b c m s.
          same-recent n startup (old ++ recent) (older ++ recent) (behind-older n old recent a c m ∙ sym (behind-older n older recent b c m)) s;
      rows = by-rows;
      row = rows-of-parts;
      neither = λ n startup g h p q. inl (p, q);
      itself = itself;
      turned = turned;
      joined = joined;
    }
