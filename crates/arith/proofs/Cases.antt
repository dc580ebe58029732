-- The definitions at single points, computed. Assumes nothing.
use Rattle.refusal.specs.declared.Refusal.TheVariants.{OutOfDomain, Settings, Malformed}
use Rattle.std.specs.Prelude.{Ok, Err}
use Rattle.std.proofs.Common.{◌≡◌, ℕ, ◌+◌, ◌*◌, ◌%◌, Bool, true, false, eqb, ltb, List, [], ◌∷◌, length, pos, negsuc, refl}
use lib.ListN.{get_or}
use lib.Ieee.{Float, nan, inf, binary64, of_bits, of_int, to_bits, round, add, mul, neg, lt, le, is_nan}
use Rattle.arith.specs.Bounds.{real, abs, negative, Within, Between, Sign}
use Rattle.arith.specs.Choice.{at_least, positive_part, lesser_of, least_of_first, least_of}
use Rattle.arith.specs.Lists.{grown, list_of, filled, padded, every, place_of, places_of}
use Rattle.arith.specs.Ln2.{H, L}
use Rattle.arith.specs.Outcome.{word_of, value_of, made, pick}
use Rattle.arith.specs.Rounding.{nearest_of, round_of, floor_of}
use Rattle.arith.specs.Sums.{sum_over, products, dot_of}

abbrev float : ℕ → Float
float n = of_int binary64 (pos n)

abbrev plus0 : Float
plus0 = of_bits binary64 0

abbrev minus0 : Float
minus0 = of_bits binary64 0x8000000000000000

-- sizes, signs and ranges: -0 has the minus sign and both of `Sign`, a NaN is in no range
abbrev Ranges : Type 0
Ranges =
    (abs minus0 ≡ plus0)
    × (abs (inf true) ≡ inf false)
    × (negative minus0 ≡ true)
    × (real (float 1) × (real nan → ⊥))
    × (Within (float 2) (of_int binary64 (negsuc 1)) × (Within (float 2) (of_int binary64 (negsuc 2)) → ⊥) × (Within (inf false) nan → ⊥))
    × (Between (float 1) (float 2) (float 2) × (Between (float 1) (float 2) (float 3) → ⊥))
    × (Sign false minus0 × Sign true plus0 × (Sign false (of_int binary64 (negsuc 0)) → ⊥) × (Sign true (float 1) → ⊥))

ranges : Ranges
unfolding of_bits of_int round le is_nan
ranges = (refl, refl, refl, (tt, λ h. h), (tt, λ h. h, λ h. h), ((tt, tt), λ h. h.1), (tt, tt, λ h. h, λ h. h))

-- a NaN and an equal value give the limit; the earlier of equal values stays; a NaN is no least value
abbrev Choices : Type 0
Choices =
    (at_least (float 1) (float 2) ≡ float 2)
    × (at_least (float 1) nan ≡ float 1)
    × (positive_part minus0 ≡ plus0)
    × (lesser_of plus0 minus0 ≡ plus0)
    × (lesser_of (float 2) (float 1) ≡ float 1)
    × (least_of (float 3 ∷ nan ∷ float 1 ∷ float 2 ∷ []) ≡ float 1)
    × (least_of [] ≡ inf false)

choices : Choices
unfolding least_of_first of_bits of_int round lt
choices = (refl, refl, refl, refl, refl, refl, refl)

abbrev even : ℕ → Bool
even n = eqb (n % 2) 0

-- lists and places; where no place is found the answer is the count
abbrev Places : Type 0
Places =
    (grown (λ (xs : List ℕ) (i : ℕ). length xs + 10 * i) 3 ≡ 0 ∷ 11 ∷ 22 ∷ [])
    × (list_of (λ (i : ℕ). i * i) 4 ≡ 0 ∷ 1 ∷ 4 ∷ 9 ∷ [])
    × (filled {A = ℕ} 7 4 (1 ∷ 2 ∷ []) ≡ 1 ∷ 2 ∷ 7 ∷ 7 ∷ [])
    × (padded 2 (float 1 ∷ []) ≡ float 1 ∷ plus0 ∷ [])
    × (every 3 (λ i. ltb i 3) ≡ true)
    × (every 4 (λ i. ltb i 3) ≡ false)
    × (place_of 5 (λ i. ltb 1 i) ≡ 2)
    × (place_of 2 (λ i. ltb 1 i) ≡ 2)
    × (places_of 5 even ≡ 0 ∷ 2 ∷ 4 ∷ [])

places : Places
unfolding grown every place_of places_of
places = (refl, refl, refl, refl, refl, refl, refl, refl, refl)

-- the two parts of ln 2 add up to the float that is Rust's LN_2
parts : add binary64 H L ≡ of_bits binary64 0x3fe62e42fefa39ef
unfolding add of_bits round
parts = refl

abbrev Answers : Type 0
Answers =
    (word_of (Ok (float 1)) ≡ 0x3ff0000000000000)
    × (word_of (Err OutOfDomain) ≡ 0)
    × (value_of (Ok (float 1)) ≡ float 1)
    × (value_of (Err OutOfDomain) ≡ nan)
    × (made neg (Ok plus0) ≡ Ok minus0)
    × (made neg (Err OutOfDomain) ≡ Err OutOfDomain)
    × (pick true (Err Settings) (Err Malformed) ≡ Err Settings)

answers : Answers
unfolding of_bits of_int round to_bits neg
answers = (refl, refl, refl, refl, refl, refl, refl)

-- 2.5 and -2.5, the float below a half, -0.25 and -0, as Rust's round and floor have them
abbrev Rounded : Type 0
Rounded =
    (nearest_of (of_bits binary64 0xc004000000000000) ≡ 3)
    × (round_of (of_bits binary64 0x4004000000000000) ≡ float 3)
    × (round_of (of_bits binary64 0xc004000000000000) ≡ of_int binary64 (negsuc 2))
    × (round_of (of_bits binary64 0x3fdfffffffffffff) ≡ plus0)
    × (round_of (of_bits binary64 0xbfd0000000000000) ≡ minus0)
    × (floor_of (of_bits binary64 0x4004000000000000) ≡ float 2)
    × (floor_of (of_bits binary64 0xc004000000000000) ≡ of_int binary64 (negsuc 2))
    × (floor_of minus0 ≡ minus0)

rounded : Rounded
unfolding nearest_of round_of floor_of of_bits of_int round
rounded = (refl, refl, refl, refl, refl, refl, refl, refl)

-- 2^53 and two ones: from the left each one is lost; a sum starts from +0
abbrev Summed : Type 0
Summed =
    (sum_over 3 (λ i. get_or (of_bits binary64 0x4340000000000000 ∷ float 1 ∷ float 1 ∷ []) i nan) ≡ of_bits binary64 0x4340000000000000)
    × (sum_over 1 (λ i. minus0) ≡ plus0)
    × (products (float 1 ∷ float 2 ∷ []) (float 3 ∷ float 4 ∷ []) ≡ float 11)
    × (dot_of (float 1 ∷ float 2 ∷ []) (float 3 ∷ float 4 ∷ []) ≡ Ok (float 11))
    × (dot_of (float 1 ∷ []) [] ≡ Err OutOfDomain)

summed : Summed
unfolding sum_over of_bits of_int round add mul
summed = (refl, refl, refl, refl, refl)
