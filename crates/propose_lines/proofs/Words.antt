-- The words of a line. Assumes nothing.
use Prim.Native.Nat.{ℕ, ◌<◌}
use mathlib.Core.Path.{◌≡◌}
use mathlib.Core.List.{List}
use lib.ListN.{length, get_or}
use Rattle.arith.proofs.Lists.{grown-length, grown-read}
use Rattle.propose_lines.specs.Lines.{word_at, word_of, words_in}

pub words_length : (k : ℕ) (line : List ℕ) → length (words_in k line) ≡ k
unfolding words_in
words_length k line = grown-length _ k

pub words_at : (k : ℕ) (line : List ℕ) (i : ℕ) → i < k → get_or (words_in k line) i 0 ≡ word_of (word_at line i)
unfolding words_in
words_at k line i h = grown-read _ k i 0 h
