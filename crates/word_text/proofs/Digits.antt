-- Laws of the digits: a byte and its value, then, over the number of digits, that the digits of a number and the number of digits undo each other. By induction.
use Prim.Native.Nat.{ℕ, zero, suc, ◌+◌, ◌-◌, ◌*◌, ◌/◌, ◌%◌, ◌^◌, ◌≤◌, ◌<◌}
use mathlib.Core.Path.{◌≡◌, refl, sym, ap, ap₂, ◌∙◌}
use mathlib.Core.Bool.{Bool, true, false, ◌&&◌, and_assoc, and-false, and-eq-true_iff}
use mathlib.Core.List.{List, [], ◌∷◌, ◌++◌, append_assoc, append-nil}
use native.Mathlib.Decide.{dec_le, dec_lt}
use native.Mathlib.Nat.{zero-add, add-zero, mul-one, mul_assoc, add-mul, pow-suc, pow-succ', div-lt_iff_lt-mul, lt_of_lt_of_le, pow-le-pow_right}
use native.Mathlib.Numerals.{add-one}
use native.Mathlib.Omega.{arith}
use borrow.Author.Tests.{lt-ltb, le-ltb, le-leb, lt-leb, ltb-true}
use lib.Arith.{digits_lt, digits_div, digits_mod}
use lib.Dec.{ltb}
use lib.ListN.{length, take, drop, get_or, set, length-append, length-set}
use lib.Seq.{split_at, take-suc, length-take-le, drop-cons, get_or-set_same, drop-set-lt}
use Rattle.word_text.specs.Digits.{digit_of, value_of, all_digits, of_digits, last_digits}

-- the digit of a byte, by its range
pub value-numeral : (b : ℕ) → 48 ≤ b → b ≤ 57 → value_of b ≡ b - 48
value-numeral b lo hi = rw (le-leb 48 b lo, le-leb b 57 hi)

pub value-letter : (b : ℕ) → 97 ≤ b → b ≤ 102 → value_of b ≡ b - 97 + 10
value-letter b lo hi = rw (lt-leb b 57 (omega arith), le-leb 48 b (omega arith), le-leb 97 b lo, le-leb b 102 hi)

pub value-between : (b : ℕ) → 57 < b → b < 97 → value_of b ≡ 16
value-between b lo hi = rw (lt-leb b 57 lo, le-leb 48 b (omega arith), lt-leb 97 b hi)

pub value-below : (b : ℕ) → b < 48 → value_of b ≡ 16
value-below b hi = rw (lt-leb 48 b hi, lt-leb 97 b (omega arith))

pub value-above : (b : ℕ) → 102 < b → value_of b ≡ 16
value-above b lo = rw (lt-leb b 57 (omega arith), le-leb 48 b (omega arith), le-leb 97 b (omega arith), lt-leb b 102 lo)

-- the byte of a digit has that value
pub value-digit : (d : ℕ) → d < 16 → value_of (digit_of d) ≡ d
value-digit d h = go (dec_lt d 10)
  where
    go : Dec (d < 10) → value_of (digit_of d) ≡ d
    go (yes p) =
        let e = lt-ltb d 10 p in
        value-numeral (digit_of d) (rw e (omega arith)) (rw e (omega arith)) ∙ rw e (omega arith)
    go (no p) =
        let e = le-ltb d 10 (omega arith) in
        value-letter (digit_of d) (rw e (omega arith)) (rw e (omega arith)) ∙ rw e (omega arith)

-- a byte that is a digit is the byte of its value
pub digit_value : (b : ℕ) → value_of b < 16 → digit_of (value_of b) ≡ b
digit_value b h = go (dec_lt b 48) (dec_le b 57) (dec_lt b 97) (dec_le b 102)
  where
    go : Dec (b < 48) → Dec (b ≤ 57) → Dec (b < 97) → Dec (b ≤ 102) → digit_of (value_of b) ≡ b
    go (yes p) q r t = let e : value_of b ≡ 16 = value-below b p in absurd (omega arith)
    go (no p) (yes q) r t = rw (value-numeral b (omega arith) q, lt-ltb (b - 48) 10 (omega arith)) (omega arith)
    go (no p) (no q) (yes r) t = let e : value_of b ≡ 16 = value-between b (omega arith) r in absurd (omega arith)
    go (no p) (no q) (no r) (yes t) = rw (value-letter b (omega arith) t, le-ltb (b - 97 + 10) 10 (omega arith)) (omega arith)
    go (no p) (no q) (no r) (no t) = let e : value_of b ≡ 16 = value-above b (omega arith) in absurd (omega arith)

pub all_append : (s t : List ℕ) → all_digits (s ++ t) ≡ (all_digits s && all_digits t)
unfolding all_digits
all_append [] t = refl
all_append (b ∷ s) t = ap (λ (x : Bool). ltb (value_of b) 16 && x) (all_append s t) ∙ sym (and_assoc (ltb (value_of b) 16) (all_digits s) (all_digits t))

pub of-append : (s : List ℕ) (b : ℕ) → of_digits (s ++ (b ∷ [])) ≡ of_digits s * 16 + value_of b
unfolding of_digits
of-append [] b = omega arith
of-append (x ∷ s) b =
    rw (of-append s b, length-append s (b ∷ []), add-one, pow-suc, ← mul_assoc (value_of x) (16 ^ length s) 16)
    (omega arith)

-- the last k digits are k digits, and their number is n where k digits hold it
pub length_last : (k n : ℕ) → length (last_digits k n) ≡ k
unfolding last_digits
length_last zero n = refl
length_last (suc k) n = rw (length-append, length_last k (n / 16), add-one)

pub all-last : (k n : ℕ) → all_digits (last_digits k n) ≡ true
unfolding last_digits all_digits
all-last zero n = refl
all-last (suc k) n =
    rw (all_append, all-last k (n / 16), value-digit (n % 16) (omega arith), lt-ltb (n % 16) 16 (omega arith))

pub of-last : (k n : ℕ) → n < 16 ^ k → of_digits (last_digits k n) ≡ n
unfolding last_digits of_digits
of-last zero n h = omega arith
of-last (suc k) n h =
    rw (of-append, of-last k (n / 16) ((div-lt_iff_lt-mul (omega arith)).1 (rw pow-suc at h)), value-digit (n % 16) (omega arith))
    (omega arith)

-- the number of k digits is below 16 ^ k, and its last k digits are these
pub of-below : (s : List ℕ) → all_digits s ≡ true → of_digits s < 16 ^ length s
unfolding all_digits of_digits
of-below [] h = omega arith
of-below (b ∷ s) h =
    let d = (and-eq-true_iff (ltb (value_of b) 16) (all_digits s)).0 h in
    rw pow-succ' (digits_lt (ltb-true (value_of b) 16 d.0) (of-below s d.1))

last-after : (s : List ℕ) (k m : ℕ) → all_digits s ≡ true → last_digits (k + length s) (m * 16 ^ length s + of_digits s) ≡ last_digits k m ++ s
unfolding all_digits of_digits last_digits
last-after [] k m h = rw (add-zero k, add-zero (m * 1), mul-one m, append-nil (last_digits k m))
last-after (b ∷ s) k m h =
    let d = (and-eq-true_iff (ltb (value_of b) 16) (all_digits s)).0 h in
    let v : value_of b < 16 = ltb-true (value_of b) 16 d.0 in
    let places : k + suc (length s) ≡ suc k + length s = omega arith in
    let number : m * 16 ^ suc (length s) + (value_of b * 16 ^ length s + of_digits s) ≡ (m * 16 + value_of b) * 16 ^ length s + of_digits s =
    rw (pow-succ', ← mul_assoc m 16 (16 ^ length s), add-mul (m * 16) (value_of b) (16 ^ length s)) (omega arith) in
    ap₂ last_digits places number ∙ last-after s (suc k) (m * 16 + value_of b) d.1 ∙
    rw (digits_div m v, digits_mod m v, digit_value b v) (append_assoc (last_digits k m) (b ∷ []) s)

pub last_of : (s : List ℕ) → all_digits s ≡ true → last_digits (length s) (of_digits s) ≡ s
unfolding last_digits
last_of s h = ap₂ last_digits (sym (zero-add (length s))) (omega arith) ∙ last-after s 0 0 h

-- a text with a byte that is no digit, and a text of digits with one more
module _ (s : List ℕ) (i : ℕ) (h : i < length s) where
  pub not_all : 16 ≤ value_of (get_or s i 0) → all_digits s ≡ false
  unfolding all_digits
  not_all v =
      ap all_digits (split_at s i 0 h) ∙ all_append (take i s) (get_or s i 0 ∷ drop (suc i) s) ∙
      rw (le-ltb (value_of (get_or s i 0)) 16 v) (and-false (all_digits (take i s)))

  pub all_more : all_digits (take i s) ≡ true → value_of (get_or s i 0) < 16 → all_digits (take (i + 1) s) ≡ true
  unfolding all_digits
  all_more a v = rw (add-one, take-suc s i 0 h, all_append, a, lt-ltb (value_of (get_or s i 0)) 16 v)

  pub of_more : of_digits (take (i + 1) s) ≡ of_digits (take i s) * 16 + value_of (get_or s i 0)
  of_more = rw (add-one, take-suc s i 0 h) (of-append (take i s) (get_or s i 0))

  pub of_room : i < 16 → all_digits (take i s) ≡ true → of_digits (take i s) < 16 ^ 15
  of_room k a = lt_of_lt_of_le (rw (length-take-le i s (omega arith)) at (of-below (take i s) a)) (pow-le-pow_right (omega arith) {i = i} {j = 15} (omega arith))

-- what a loop over the digits of a text uses
pub ruleset parsing = (not_all, all_more, of_more, of_room)

-- one digit more, stored in front of those that are there
pub last_more : (k n : ℕ) (out : List ℕ) (j a : ℕ) (all : List ℕ) → k ≡ j + 1 → a ≡ j → k ≤ length out → last_digits k n ++ drop k out ≡ all → last_digits j (n / 16) ++ drop j (set out a (digit_of (n % 16))) ≡ all
unfolding last_digits
last_more k n out j a all hk ha room e =
    let d : ℕ = digit_of (n % 16) in
    let h : j < length out = omega arith in
    rw (ha, drop-cons (set out j d) j 0 (rw length-set h), get_or-set_same out j d 0 h, drop-set-lt (suc j) out j d (omega arith))
    (sym (append_assoc (last_digits j (n / 16)) (d ∷ []) (drop (suc j) out)) ∙ rw (hk, add-one) at e)
