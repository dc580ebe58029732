-- The line of an answer: four words, 17 bytes each. Assumes nothing.
use Prim.Native.Nat.{ℕ, ◌+◌}
use mathlib.Core.Path.{◌≡◌, refl, sym, ap, ◌∙◌}
use mathlib.Core.List.{List, [], ◌∷◌, ◌++◌, append-nil}
use native.Mathlib.Omega.{arith}
use lib.ListN.{length, drop, length-append, length-drop, drop_of_length-le}
use lib.Seq.{paste, take_at, take_all, drop-append-add}
use Rattle.word_text.specs.Digits.{digits_of}
use Rattle.word_text.proofs.Digits.{length_last}
use Rattle.propose_lines.specs.Lines.{printed}

-- a word and the byte after it are 17 bytes
pub printed-length : (w end : ℕ) → length (printed w end) ≡ 17
printed-length w end = length-append (digits_of w) (end ∷ []) ∙ ap (λ (n : ℕ). n + 1) (length_last 16 w)

-- 17 bytes put behind those that are there
next : (p r s : List ℕ) (at : ℕ) → length p ≡ at → length s ≡ 17 → paste (p ++ r) at s 17 ≡ p ++ s ++ drop 17 r
next p r s at e n =
    let d : drop (at + 17) (p ++ r) ≡ drop 17 r = ap (λ (k : ℕ). drop (k + 17) (p ++ r)) (sym e) ∙ drop-append-add p r 17 in
    rw (take_at p r at e, take_all 17 s (omega arith), d)

pub four_words : (z : List ℕ) (a b c d : ℕ) → length z ≡ 68
    → paste (paste (paste (paste z 0 (printed a 32) 17) 17 (printed b 32) 17) 34 (printed c 32) 17) 51 (printed d 10) 17 ≡ printed a 32 ++ printed b 32 ++ printed c 32 ++ printed d 10
four_words z a b c d e =
    let A = printed a 32 in
    let B = printed b 32 in
    let C = printed c 32 in
    let D = printed d 10 in
    let la = printed-length a 32 in
    let lb = printed-length b 32 in
    let lc = printed-length c 32 in
    let ld = printed-length d 10 in
    let lab = length-append A B in
    let labc = length-append (A ++ B) C in
    let one = next [] z A 0 refl la in
    let two = next A (drop 17 z) B 17 la lb in
    let three = next (A ++ B) (drop 17 (drop 17 z)) C 34 (omega arith) lc in
    let four = next (A ++ B ++ C) (drop 17 (drop 17 (drop 17 z))) D 51 (omega arith) ld in
    let l1 = length-drop 17 z in
    let l2 = length-drop 17 (drop 17 z) in
    let l3 = length-drop 17 (drop 17 (drop 17 z)) in
    let gone : drop 17 (drop 17 (drop 17 (drop 17 z))) ≡ [] = drop_of_length-le (drop 17 (drop 17 (drop 17 z))) {i = 17} (omega arith) in
    rw (one, two, three, four, gone) (append-nil (A ++ B ++ C ++ D))
