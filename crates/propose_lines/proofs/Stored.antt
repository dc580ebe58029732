-- The words of a line stored in an array. Assumes nothing.
use Prim.Native.Nat.{ℕ, ◌+◌, ◌≤◌, ◌<◌}
use mathlib.Core.Path.{◌≡◌, refl, ap, ◌∙◌}
use mathlib.Core.Bool.{Bool, true, false, not}
use mathlib.Core.List.{List, ◌++◌, append_assoc}
use native.Mathlib.Omega.{arith}
use lib.ListN.{length, take, drop}
use lib.Seq.{paste, take-paste, take_at, length-take-le, take_all}
use Rattle.arith.specs.Lists.{every}
use Rattle.arith.proofs.Lists.{every-same, place_none, place_is}
use Rattle.propose_lines.specs.Lines.{word_at, is_word, words_in}
use Rattle.propose_lines.proofs.Words.{words_length}
use Rattle.propose_lines.specs.Stored.{leading}

module _ (out : List ℕ) (at k : ℕ) (line : List ℕ) (room : at + k ≤ length out) where
  -- what stands before them
  pub words_kept : (i : ℕ) → i ≤ k → take at (paste out at (words_in k line) i) ≡ take at out
  words_kept i h =
      let l : length (take at out) ≡ at = length-take-le at out (omega arith) in
      ap (take at) (append_assoc (take at out) (take i (words_in k line)) (drop (at + i) out)) ∙ take_at (take at out) (take i (words_in k line) ++ drop (at + i) out) at l

  -- all of them
  pub words_read : take (at + k) (paste out at (words_in k line) k) ≡ take at out ++ words_in k line
  words_read =
      let l = words_length k line in
      take-paste out at (words_in k line) k (omega arith) (omega arith) ∙ ap (λ (s : List ℕ). take at out ++ s) (take_all k (words_in k line) (omega arith))

-- ---- how many there are

not-not : (k : ℕ) (line : List ℕ) → every k (λ i. is_word (word_at line i)) ≡ true → every k (λ i. not (not (is_word (word_at line i)))) ≡ true
not-not k line e = every-same k _ _ (λ i h. twice (is_word (word_at line i))) ∙ e
  where
    twice : (b : Bool) → not (not b) ≡ b
    twice true = refl
    twice false = refl

-- all of them
pub leading_all : (k : ℕ) (line : List ℕ) → every k (λ i. is_word (word_at line i)) ≡ true → leading k line ≡ k
leading_all k line e = place_none k _ (not-not k line e)

-- those before the first that is none
pub leading_first : (k : ℕ) (line : List ℕ) (i : ℕ) → i < k → every i (λ j. is_word (word_at line j)) ≡ true → is_word (word_at line i) ≡ false → leading k line ≡ i
leading_first k line i h e n = place_is k _ i h (not-not i line e) (ap not n)

-- what the end of a loop over the words of a line uses
pub ruleset storing = (words_kept, words_read, leading_all, words_length)
