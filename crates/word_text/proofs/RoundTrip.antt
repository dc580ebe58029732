-- Printing and reading undo each other: the laws of the digits at sixteen.
use Rattle.std.specs.Prelude.{Some, None}
use Prim.Native.Nat.{ℕ, ◌^◌, ◌<◌}
use mathlib.Core.Path.{◌≡◌, refl, sym}
use mathlib.Core.Bool.{Bool, true, false, ◌&&◌, cond}
use mathlib.Core.List.{List}
use native.Mathlib.Omega.{arith}
use borrow.Author.Tests.{eqb-true}
use lib.Dec.{eqb}
use lib.ListN.{length}
use Rattle.word_text.specs.Digits.{all_digits, of_digits, digits_of, parse_of}
use Rattle.word_text.proofs.Digits.{length_last, all-last, of-last, of-below, last_of}

pub reads : (w : ℕ) → w < 2 ^ 64 → parse_of (digits_of w) ≡ Some w
reads w h = rw (length_last 16 w, all-last 16 w, of-last 16 w h)

pub prints : (s : List ℕ) (w : ℕ) → parse_of s ≡ Some w → (s ≡ digits_of w) × (w < 2 ^ 64)
prints s w e = go (eqb (length s) 16) (all_digits s) refl refl e
  where
    go : (t u : Bool) → eqb (length s) 16 ≡ t → all_digits s ≡ u → cond (t && u) (Some (of_digits s)) None ≡ Some w → (s ≡ digits_of w) × (w < 2 ^ 64)
    go true true n d p =
        let long : length s ≡ 16 = eqb-true (length s) 16 n in
        let same : of_digits s ≡ w = cc in
        (sym (rw (long, same) at (last_of s d)), rw (long, same) at (of-below s d))
    go true false n d p = let z : ◌≡◌ {A = ℕ} 0 1 = cc in absurd (omega arith)
    go false u n d p = let z : ◌≡◌ {A = ℕ} 0 1 = cc in absurd (omega arith)
