-- The view and agreement at small histories, computed. Assumes nothing.
use Prim.Native.Nat.{ℕ, zero, suc, ◌<◌, ◌*◌}
use native.Mathlib.Omega.{arith}
use mathlib.Core.Logic.{inl, inr}
use mathlib.Core.Path.{◌≡◌, refl, ap, ◌∙◌, subst}
use mathlib.Core.Bool.{Bool, true, false}
use mathlib.Core.List.Permᴰ
use mathlib.Core.List.{List, [], ◌∷◌, ◌++◌}
use lib.Dec.{T, T_not, eqb}
use lib.ListN.{get_or, take}
use Rattle.std.specs.Prelude.{Ok, Err}
use Rattle.refusal.specs.declared.Refusal.TheVariants.{BrokenRows}
use lib.Ieee.{Float, binary64, of_bits, of_int, to_bits, neg, le, lt, eq, sub, div, round}
use Rattle.arith.specs.Outcome.{made}
use Rattle.arith.specs.Lists.{every, grown, place_of, places_of}
use Rattle.encoding.specs.Bounds.{ends_of, bounds_of}
use Rattle.encoding.specs.Encode.{encoded_of, to_internal_of}
use Rattle.scaling.specs.Scaling.{to_normalized_of}
use Rattle.distribution.specs.Equal.{equal_of}
use Rattle.distribution.specs.Shape.{shape_of, float_step, int_shape, int_step, categorical_shape}
use Rattle.distribution.specs.Taken.{taken_of, value_of, float_taken, int_taken}
use Rattle.distribution_words.specs.Words.{read_of, checked_of}
use Rattle.history.specs.RowsAgree.{RowsAgree}
use Rattle.history_view.specs.Agree.{Agree}
use Rattle.dimensions.specs.Dimensions.{dimension_ok, dimensions_ok, columns_of}
use Rattle.param_mapping.specs.Mapping.{insert_by_id, entries_of, first_entry, consumed_of, matches_of, mapped_of, asked_of}
use Rattle.history_rows.specs.Rows.{row_at, slots_of, whole_rows, row_count, recent_count, recent_of}
use Rattle.history_rows.specs.Tests.{row_ok, slots_ok, ids_once, rows_agreeing, recent_tests, check_of}
use Rattle.slots.specs.Slot.{slot_read, slot_ok, agreeing}
use Rattle.history_rows.specs.Slots.{slot_with}
use Rattle.history.specs.Training.{covers_of, trains_of, entry_of, column_of, kept_of, x_of, y_of, recent_training, training_of}
use Rattle.history_view.specs.declared.View.{View}
use Rattle.history_view.specs.View.{view_of}
use Rattle.history_rows.proofs.Samples.{slot, absent, row, rows}
use Rattle.history.proofs.SameRow.{each-slot}
use Rattle.param_mapping.proofs.Samples.{dims, first, second, third}

-- whether start-up is reached, rows, columns, and the values and objectives of the rows
abbrev shown : View → Bool × ℕ × ℕ × List Float × List Float
shown v = let t = v.training in (v.reached, t.n, t.d, take (t.n * t.d) t.x, take t.n t.y)

-- of two rows of two columns: 2/4, 1/4, then 4/4, 3/4
abbrev two : Bool → Bool × ℕ × ℕ × List Float × List Float
two reached = (reached, 2, 2, of_bits binary64 0x3fe0000000000000 ∷ of_bits binary64 0x3fd0000000000000 ∷ of_bits binary64 0x3ff0000000000000 ∷ of_bits binary64 0x3fe8000000000000 ∷ [], of_bits binary64 0x3ff0000000000000 ∷ of_bits binary64 0x4000000000000000 ∷ [])

abbrev Viewed : Type 0
Viewed =
    -- start-up is reached at the count and not one under it, and a history that is refused is not seen
    (made shown (view_of 3 3 dims 3 (first ++ second ++ third)) ≡ Ok (two true))
    × (made shown (view_of 3 4 dims 3 (first ++ second ++ third)) ≡ Ok (two false))
    × (view_of 3 0 dims 3 (7 ∷ first) ≡ Err BrokenRows)

viewed : Viewed
unfolding view_of training_of recent_training columns_of kept_of trains_of covers_of slot_with place_of places_of x_of y_of column_of entry_of to_internal_of encoded_of to_normalized_of sub div round mapped_of asked_of entries_of insert_by_id first_entry consumed_of matches_of dimension_ok dimensions_ok grown bounds_of ends_of check_of recent_tests whole_rows row_count recent_count recent_of row_ok slot_read slot_ok agreeing slots_ok ids_once rows_agreeing every equal_of shape_of int_shape int_step categorical_shape float_step taken_of value_of float_taken int_taken read_of checked_of of_bits of_int to_bits neg le lt eq
viewed = (refl, refl, refl)

-- ---- agreement

-- what holds of the first row holds of each of one row
only : (P : ℕ → Type 0) → P 0 → (i : ℕ) → i < 1 → P i
only P p zero l = p
only P p (suc i) l = absurd (omega arith)

-- another trial number and state, and the slots the other way round
agreed : Agree 2 1 (row 0 (slot 9 4 1 ++ slot 4 4 2)) (8 ∷ 3 ∷ 0x3ff0000000000000 ∷ (slot 4 4 2 ++ slot 9 4 1))
unfolding whole_rows row_count recent_count recent_of grown
agreed =
    inr
    (record {
      whole = (tt, tt);
      reach = refl;
      many = refl;
      rows = λ i l. only (λ i. RowsAgree 2 (row_at 2 (row 0 (slot 9 4 1 ++ slot 4 4 2)) i) (row_at 2 (8 ∷ 3 ∷ 0x3ff0000000000000 ∷ (slot 4 4 2 ++ slot 9 4 1)) i))
          (record { objective = refl; state = inr (omega arith, omega arith); slots = Permᴰ.swap refl refl }) i (omega arith);
    })

-- histories of the same recent rows, whose older ones are any; and start-up between their counts
older : Agree 1 101 (row 4 absent ++ rows 100) (row 0 absent ++ row 9 (slot 9 9 12) ++ rows 100)
unfolding whole_rows row_count recent_count recent_of grown
older = inr (record { whole = (tt, tt); reach = refl; many = refl; rows = λ i l. record { objective = refl; state = inl refl; slots = Permᴰ.refl (slots_of 1 (row_at 1 (rows 100) i)) } })

started : Agree 1 102 (row 4 absent ++ rows 100) (row 0 absent ++ row 9 (slot 9 9 12) ++ rows 100) → ⊥
unfolding whole_rows row_count
started (inl q) = q.0
started (inr w) = let e = w.reach in cc e

-- one row more among fewer than a hundred
longer : Agree 1 0 (rows 2) (rows 3) → ⊥
unfolding whole_rows row_count recent_count recent_of
longer (inl q) = q.0
longer (inr w) = let e = w.many in absurd (omega arith)

-- no whole rows, and one of them alone
neither : Agree 1 0 (7 ∷ []) (row 0 absent ++ (7 ∷ 8 ∷ []))
unfolding whole_rows
neither = inl (tt, tt)

broken : Agree 1 0 (rows 1) (7 ∷ rows 1) → ⊥
unfolding whole_rows
broken (inl q) = q.0
broken (inr w) = w.whole.1

-- ---- one row of one slot against another, without start-up

-- a float from 0 to 1 under the id 9
abbrev unit : ℕ → List ℕ
unit v = 9 ∷ 1 ∷ 0 ∷ 0x3ff0000000000000 ∷ 0 ∷ 0 ∷ 0 ∷ v ∷ []

-- where they agree, their parts are these
lone : (a b : List ℕ) → T (whole_rows 1 a) → recent_of 1 a ≡ a → recent_of 1 b ≡ b → row_count 1 a ≡ 1 → row_at 1 a 0 ≡ a → row_at 1 b 0 ≡ b → Agree 1 0 a b → RowsAgree 1 a b
lone a b t p q m e f (inl r) = absurd (T_not (whole_rows 1 a) r.0 t)
lone a b t p q m e f (inr w) = subst (λ x. RowsAgree 1 x b) (ap (λ r. row_at 1 r 0) p ∙ e) (subst (λ x. RowsAgree 1 (row_at 1 (recent_of 1 a) 0) x) (ap (λ r. row_at 1 r 0) q ∙ f) (w.rows 0 (rw (p, m) (omega arith))))

-- an equal bad state
equal_states : Agree 1 0 (row 9 (unit 0)) (8 ∷ 9 ∷ 0x3ff0000000000000 ∷ unit 0)
unfolding whole_rows row_count recent_count recent_of grown
equal_states =
    inr
    (record {
      whole = (tt, tt);
      reach = refl;
      many = refl;
      rows = λ i l. only (λ i. RowsAgree 1 (row_at 1 (row 9 (unit 0)) i) (row_at 1 (8 ∷ 9 ∷ 0x3ff0000000000000 ∷ unit 0) i))
          (record { objective = refl; state = inl refl; slots = Permᴰ.refl (unit 0 ∷ []) }) i (omega arith);
    })

-- states 4 and 5, and 3 and 4
unequal_states : Agree 1 0 (row 4 (unit 0)) (row 5 (unit 0)) → ⊥
unfolding whole_rows row_count recent_count recent_of
unequal_states a = elim (lone (row 4 (unit 0)) (row 5 (unit 0)) tt refl refl refl refl refl a).state [ inl e ↦ absurd (omega arith) | inr q ↦ let l = q.0 in absurd (omega arith) ]

invalid_state : Agree 1 0 (row 3 (unit 0)) (row 4 (unit 0)) → ⊥
unfolding whole_rows row_count recent_count recent_of
invalid_state a = elim (lone (row 3 (unit 0)) (row 4 (unit 0)) tt refl refl refl refl refl a).state [ inl e ↦ absurd (omega arith) | inr q ↦ let l = q.1 in absurd (omega arith) ]

-- +0 and -0 as objectives, and as taken values
zero_objectives : Agree 1 0 (7 ∷ 0 ∷ 0 ∷ unit 0) (7 ∷ 0 ∷ 0x8000000000000000 ∷ unit 0) → ⊥
unfolding whole_rows row_count recent_count recent_of
zero_objectives a = let e = (lone (7 ∷ 0 ∷ 0 ∷ unit 0) (7 ∷ 0 ∷ 0x8000000000000000 ∷ unit 0) tt refl refl refl refl refl a).objective in absurd (omega arith)

zero_values : Agree 1 0 (row 0 (unit 0)) (row 0 (unit 0x8000000000000000)) → ⊥
unfolding whole_rows row_count recent_count recent_of every
zero_values a =
    let p = lone (row 0 (unit 0)) (row 0 (unit 0x8000000000000000)) tt refl refl refl refl refl a in
    let e : true ≡ false = each-slot 1 (row 0 (unit 0)) (row 0 (unit 0x8000000000000000)) p (λ v. eqb (get_or v 7 0) 0) in
    cc e
