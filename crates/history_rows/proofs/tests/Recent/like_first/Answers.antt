-- `history_rows::tests::Recent::like_first` meets its contract. Assumes nothing.
use Rattle.std.proofs.Common.{◌≡◌, Some, sym, ap, ◌∙◌}
use Rattle.std.specs.List.{find, list_any}
use Rattle.std.specs.Option.{option_map}
use Rattle.arith.specs.Chunks.{chunks_of}
use Rattle.slots.specs.Slot.{has_id}
use Rattle.history_rows.specs.Chunks.{slots_in}
use Rattle.history_rows.specs.First.{first_slot_with, like_first}
use Rattle.history_rows.specs.Rows.{width_of, row_count}
use Rattle.history_rows.proofs.First.{none_first}
use Rattle.history_rows.proofs.Lookup.{first_found, first_there, row_missing}
use Rattle.history_rows.proofs.tests.Recent.like_first.Goals as goal
use Rattle.history_rows.proofs.tests.Recent.like_first.Goals.{In-Some}

-- the row that is found
found : (c : In-Some) → let s = c.args.self.now in
    find (λ row. list_any (has_id c.word-id.result) (slots_in row)) (chunks_of (width_of s.slots) s.words.now) ≡ Some c.in-Some.row.now
found c = sym c.row_with.ensures ∙ ap (option_map (λ r. r.now)) c.in-Some.is

pub returns-then-not-is_present : goal.returns-then-not-is_present
unfolding like_first
returns-then-not-is_present c = rw (sym c.is_present.ensures, c.if-not-is_present.true)

pub returns-in-Some-slot_with : goal.returns-in-Some-slot_with
unfolding like_first
returns-in-Some-slot_with c =
    let s = c.args.self.now in
    let first = c.in-Some-slot_with.first.now in
    let e : first ≡ first_slot_with s.slots (row_count s.slots s.words.now) s.words.now c.word-id.result =
    first_found s.slots s.words.now c.word-id.result c.in-Some.row.now first (found (goal.at.returns-in-Some-slot_with c).In-Some) (sym c.slot_with.ensures ∙ ap (option_map (λ r. r.now)) c.in-Some-slot_with.is) in
    rw (sym c.is_present.ensures, c.if-not-is_present.false, sym c.word-id.ensures, sym e) c.reads_equal.ensures

pub returns-in-None-slot_with : goal.returns-in-None-slot_with
returns-in-None-slot_with c =
    let s = c.args.self.now in
    absurd (first_there s.slots s.words.now c.word-id.result c.in-Some.row.now (found (goal.at.returns-in-None-slot_with c).In-Some) (sym c.slot_with.ensures ∙ ap (option_map (λ r. r.now)) c.in-None-slot_with.is))

pub returns-in-None : goal.returns-in-None
unfolding like_first
returns-in-None c =
    let s = c.args.self.now in
    let l = row_missing s.slots s.words.now c.word-id.result (sym c.row_with.ensures ∙ ap (option_map (λ r. r.now)) c.in-None.is) in
    rw (sym c.is_present.ensures, c.if-not-is_present.false, sym c.word-id.ensures, none_first s.slots (row_count s.slots s.words.now) s.words.now c.word-id.result s.whole l)
