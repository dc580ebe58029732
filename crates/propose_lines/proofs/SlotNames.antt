-- The names of the slots, one slot after the other. Assumes nothing.
use Prim.Native.Nat.{ℕ, suc, ◌+◌, ◌-◌, ◌<◌}
use mathlib.Core.Path.{◌≡◌, refl, sym, ap, ◌∙◌}
use mathlib.Core.Bool.{◌&&◌}
use mathlib.Core.List.{List, [], ◌∷◌}
use native.Mathlib.Omega.{arith}
use borrow.Author.Tests.{ne_eqb}
use lib.Dec.{eqb}
use lib.ListN.{length, take, drop}
use lib.Pointwise.{pointwise}
use Rattle.propose_lines.specs.Names.{row_names, slot_names, slots_names, history_names, same_bytes}
use Rattle.propose_lines.proofs.Bytes.{same_left}

-- i of n slots have been seen
pub next_slot : (rest : List ℕ) (n i : ℕ) → i < n → same_bytes rest (slots_names (n - i)) ≡ (pointwise eqb slot_names (take 40 rest) && same_bytes (take (length rest - 40) (drop 40 rest)) (slots_names (n - (i + 1))))
unfolding slots_names
next_slot rest n i l =
    let q : n - i ≡ suc (n - (i + 1)) = omega arith in
    ap (λ (k : ℕ). same_bytes rest (slots_names k)) q ∙ same_left rest slot_names (slots_names (n - (i + 1)))

-- the names of a row and of n slots
pub history_left : (line : List ℕ) (n : ℕ) → same_bytes line (history_names n) ≡ (pointwise eqb row_names (take 17 line) && same_bytes (take (length line - 17) (drop 17 line)) (slots_names n))
history_left line n = same_left line row_names (slots_names n)

-- after the last slot nothing is left
pub none_left : (rest : List ℕ) → same_bytes rest [] ≡ eqb (length rest) 0
unfolding same_bytes
none_left [] = refl
none_left (x ∷ xs) = sym (ne_eqb (suc (length xs)) 0 (λ e. omega arith))

-- what a loop over the slots of a line uses
pub ruleset slot_by_slot = (next_slot, none_left)
