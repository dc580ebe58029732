-- What is written for a text does not depend on the pieces that it comes in. Assumes nothing.
use Prim.Native.Nat.{ℕ, ◌≤◌, ◌<◌}
use mathlib.Core.Path.{◌≡◌, refl, sym, ap, ◌∙◌}
use mathlib.Core.Bool.{Bool, true, false, cond, false≢true}
use mathlib.Core.List.{List, [], ◌∷◌, ◌++◌, append_assoc, append-nil}
use native.Mathlib.Omega.{arith}
use borrow.Author.Tests.{leb-true, leb-false, ne_eqb}
use lib.Dec.{eqb, leb}
use lib.ListN.{length, length-append}
use Rattle.refusal.specs.declared.Refusal.{Refusal}
use Rattle.text_laws.specs.declared.Stage.{Stage}
use Rattle.propose_lines.specs.Lines.{answer_line}
use Rattle.propose_lines.specs.Names.{answer_names}
use Rattle.text_laws.specs.Laws.{PiecesAnswered}
use Rattle.text_laws.specs.Pieces.{Partial, Told, begun, has_ended, told_step, no_step, longer, line_end, byte_of, written_for, piece_of, pieces_of, end_of}
use Rattle.text_laws.specs.Steps.{Reading, Stepped, ends, finish_at, step_of, finish_of}
use Rattle.text_laws.specs.Texts.{read_of, ended, written_of, joined}
use Rattle.text_laws.proofs.Cut.{silent}
use Rattle.text_laws.proofs.LongLines.{long_lines}

-- what is written from here on
abbrev rest_of : Partial → List ℕ → List ℕ
rest_of t text = read_of t.reading t.line text

not-ended : (s : Stage) → has_ended s ≡ false → s ≡ Stage.Ended → ⊥
not-ended s h e = false≢true (sym h ∙ ap has_ended e)

-- ---- a run that has ended

silent-at : (s : Stage) (r : Reading) (line text : List ℕ) → r.stage ≡ s → has_ended s ≡ true → read_of r line text ≡ []
silent-at Stage.SettingsNames r line text e h = absurd (false≢true h)
silent-at Stage.Settings r line text e h = absurd (false≢true h)
silent-at Stage.HistoryNames r line text e h = absurd (false≢true h)
silent-at Stage.History r line text e h = absurd (false≢true h)
silent-at Stage.Calls r line text e h = absurd (false≢true h)
silent-at Stage.Ended r line text e h =
    ap (λ (s : Stage). read_of (record { stage = s; sampler = r.sampler; history = r.history }) line text) e ∙ silent r.sampler r.history line text

-- ---- a line that is too long

-- a text does not end inside it
unfinished : (s : Stage) (r : Reading) (line : List ℕ) → has_ended s ≡ false → 2770 < length line → (finish_at s r line).written ≡ answer_line 0 0 14 0
unfinished Stage.SettingsNames r line h l = refl
unfinished Stage.Settings r line h l = refl
unfinished Stage.HistoryNames r line h l = refl
unfinished Stage.History r line h l = refl
unfinished Stage.Calls r line h l = rw (ne_eqb (length line) 0 (λ e. omega arith))
unfinished Stage.Ended r line h l = absurd (false≢true (sym h))

read-long : (r : Reading) (line text : List ℕ) → has_ended r.stage ≡ false → 2770 < length line → read_of r line text ≡ answer_line 0 0 14 0
unfolding read_of finish_of
read-long r line [] h l = unfinished r.stage r line h l
read-long r line (b ∷ text) h l = go (eqb b 10) (let n = length-append line (b ∷ []) in read-long r (line ++ (b ∷ [])) text h (omega arith))
  where
    go : (x : Bool) → read_of r (line ++ (b ∷ [])) text ≡ answer_line 0 0 14 0
        → cond x ((step_of r line).written ++ read_of (step_of r line).reading [] text) (read_of r (line ++ (b ∷ [])) text) ≡ answer_line 0 0 14 0
    go true more =
        ap (λ (s : Stepped). s.written ++ read_of s.reading [] text) (long_lines r line (not-ended r.stage h) l)
        ∙ ap (λ (s : List ℕ). answer_line 0 0 14 0 ++ s) (silent r.sampler r.history [] text) ∙ append-nil (answer_line 0 0 14 0)
    go false more = more

-- ---- a byte, a piece, and the pieces

-- a line is held while it is no longer than any table's
abbrev IsHeld : Partial → Type 0
IsHeld t = length t.line ≤ 2770

-- a byte, as its three tests come out
abbrev byte_as : Partial → ℕ → Bool → Bool → Bool → Told
byte_as t b x y z =
    cond x (no_step t)
    (cond y (told_step (line_end t))
    (cond z (told_step (ends Refusal.Text t.reading))
    (no_step (longer t (b ∷ [])))))

byte-held : (t : Partial) (b : ℕ) → IsHeld t → IsHeld (byte_of t b).text
unfolding byte_of
byte-held t b h = go (has_ended t.reading.stage) (eqb b 10) (leb 2770 (length t.line)) refl
  where
    go : (x y z : Bool) → leb 2770 (length t.line) ≡ z → IsHeld (byte_as t b x y z).text
    go true y z e = h
    go false true z e = omega arith
    go false false true e = omega arith
    go false false false e =
        let m : length t.line < 2770 = leb-false 2770 (length t.line) e in
        let n = length-append t.line (b ∷ []) in
        omega arith

read-byte : (t : Partial) (b : ℕ) (text : List ℕ) → IsHeld t → rest_of t (b ∷ text) ≡ written_for (byte_of t b).step ++ rest_of (byte_of t b).text text
unfolding byte_of read_of
read-byte t b text h = go (has_ended t.reading.stage) (eqb b 10) (leb 2770 (length t.line)) refl refl refl
  where
    long : has_ended t.reading.stage ≡ false → 2770 ≤ length t.line → read_of t.reading (t.line ++ (b ∷ [])) text ≡ answer_line 0 0 14 0 ++ read_of (ends Refusal.Text t.reading).reading [] text
    long x l =
        let n = length-append t.line (b ∷ []) in
        read-long t.reading (t.line ++ (b ∷ [])) text x (omega arith) ∙ sym (append-nil (answer_line 0 0 14 0))
        ∙ ap (λ (s : List ℕ). answer_line 0 0 14 0 ++ s) (sym (silent t.reading.sampler t.reading.history [] text))

    go : (x y z : Bool) → has_ended t.reading.stage ≡ x → eqb b 10 ≡ y → leb 2770 (length t.line) ≡ z
        → rest_of t (b ∷ text) ≡ written_for (byte_as t b x y z).step ++ rest_of (byte_as t b x y z).text text
    go true y z e f g = silent-at t.reading.stage t.reading t.line (b ∷ text) refl e ∙ sym (silent-at t.reading.stage t.reading t.line text refl e)
    go false true z e f g = rw f
    go false false true e f g = rw f (long e (leb-true 2770 (length t.line) g))
    go false false false e f g = rw f

piece-held : (t : Partial) (p : List ℕ) → IsHeld t → IsHeld (piece_of t p).text
unfolding piece_of
piece-held t [] h = h
piece-held t (b ∷ p) h = piece-held (byte_of t b).text p (byte-held t b h)

read-piece : (t : Partial) (p text : List ℕ) → IsHeld t → rest_of t (p ++ text) ≡ (piece_of t p).written ++ rest_of (piece_of t p).text text
unfolding piece_of
read-piece t [] text h = refl
read-piece t (b ∷ p) text h =
    let u = (byte_of t b).text in
    read-byte t b (p ++ text) h ∙ ap (λ (s : List ℕ). written_for (byte_of t b).step ++ s) (read-piece u p text (byte-held t b h))
    ∙ sym (append_assoc (written_for (byte_of t b).step) (piece_of u p).written (rest_of (piece_of u p).text text))

read-pieces : (t : Partial) (ps : List (List ℕ)) → IsHeld t → rest_of t (joined ps) ≡ (pieces_of t ps).written ++ (end_of (pieces_of t ps).text).written
unfolding pieces_of joined read_of
read-pieces t [] h = refl
read-pieces t (p ∷ ps) h =
    let u = (piece_of t p).text in
    read-piece t p (joined ps) h ∙ ap (λ (s : List ℕ). (piece_of t p).written ++ s) (read-pieces u ps (piece-held t p h))
    ∙ sym (append_assoc (piece_of t p).written (pieces_of u ps).written (end_of (pieces_of u ps).text).written)

pub pieces_answered : PiecesAnswered
unfolding written_of
pieces_answered ps = ap (λ (s : List ℕ). ended answer_names ++ s) (sym (read-pieces begun ps (omega arith)))
