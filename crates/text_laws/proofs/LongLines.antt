-- A line longer than any table has is malformed. Assumes nothing.
use Prim.Native.Nat.{ℕ, zero, suc, ◌+◌, ◌*◌, ◌≤◌}
use mathlib.Core.Path.{◌≡◌, refl}
use mathlib.Core.Bool.{Bool, true, false, ◌&&◌}
use mathlib.Core.List.{List}
use native.Mathlib.Decide.{dec_le}
use native.Mathlib.Omega.{arith}
use borrow.Author.Tests.{le-leb, lt-leb, ne_eqb}
use lib.Dec.{leb}
use lib.ListN.{length, length-append}
use Rattle.refusal.specs.declared.Refusal.{Refusal}
use Rattle.text_laws.specs.declared.Stage.{Stage}
use Rattle.text_laws.specs.Laws.{LongLines}
use Rattle.propose_lines.specs.Lines.{is_words}
use Rattle.propose_lines.specs.Names.{settings_names, row_names, slot_names, slots_names, history_names, call_names, same_bytes}
use Rattle.text_laws.specs.Steps.{Reading, ends, slots_of, row_words, line_at, settings_line, row_line, history_line, call_line, step_of}
use Rattle.propose_lines.proofs.Bytes.{differ}

not-words : (k : ℕ) (line : List ℕ) → (length line + 1 ≡ 17 * k → ⊥) → is_words k line ≡ false
unfolding is_words
not-words k line h = rw (ne_eqb (length line + 1) (17 * k) h)

slots_length : (n : ℕ) → length (slots_names n) ≡ 40 * n
unfolding slots_names
slots_length zero = refl
slots_length (suc n) = let a = length-append slot_names (slots_names n) in let b = slots_length n in omega arith

-- longer than a row of 20 slots, with 163 words
module _ (r : Reading) (line : List ℕ) (long : 17 * 163 ≤ length line) where
  few : Dec (slots_of r.sampler ≤ 20) → (leb (slots_of r.sampler) 20 && same_bytes line (history_names (slots_of r.sampler))) ≡ false
  few (yes p) =
      let a = length-append row_names (slots_names (slots_of r.sampler)) in
      let b = slots_length (slots_of r.sampler) in
      rw (le-leb (slots_of r.sampler) 20 p) (differ line (history_names (slots_of r.sampler)) (λ e. omega arith))
  few (no p) = rw (lt-leb (slots_of r.sampler) 20 (omega arith))

  -- no row is so long
  row : Dec (slots_of r.sampler ≤ 20) → (b : Bool) → leb (length r.history + row_words (slots_of r.sampler)) 8192 ≡ b → row_line r line ≡ ends Refusal.Text r
  unfolding row_line
  row (yes p) true e = rw (le-leb (slots_of r.sampler) 20 p, e, not-words (row_words (slots_of r.sampler)) line (λ q. omega arith))
  row (yes p) false e = rw (le-leb (slots_of r.sampler) 20 p, e)
  row (no p) b e = rw (lt-leb (slots_of r.sampler) 20 (omega arith))

  at_stage : (stage : Stage) → (stage ≡ Stage.Ended → ⊥) → line_at stage r line ≡ ends Refusal.Text r
  unfolding settings_line history_line call_line
  at_stage Stage.SettingsNames h = rw (differ line settings_names (λ e. let n : length line ≡ 35 = e in omega arith))
  at_stage Stage.Settings h = rw (not-words 5 line (λ e. omega arith))
  at_stage Stage.HistoryNames h = rw (few (dec_le (slots_of r.sampler) 20))
  at_stage Stage.History h = rw (differ line call_names (λ e. let n : length line ≡ 36 = e in omega arith)) (row (dec_le (slots_of r.sampler) 20) _ refl)
  at_stage Stage.Calls h = rw (not-words 7 line (λ e. omega arith))
  at_stage Stage.Ended h = absurd (h refl)

pub long_lines : LongLines
unfolding step_of
long_lines r line h long = at_stage r line (omega arith) r.stage h
