-- A piece taken up to its first step. Assumes nothing.
use Prim.Native.Nat.{ℕ, zero, suc, ◌+◌, ◌≤◌, ◌<◌, min}
use mathlib.Core.Path.{◌≡◌, refl, sym, ap, ap₂, ◌∙◌}
use mathlib.Core.Bool.{true, false}
use mathlib.Core.List.{List, [], ◌∷◌, ◌++◌, append-nil, append_assoc}
use native.Mathlib.Decide.{dec_le}
use native.Mathlib.Nat.{min-eq_left, min-eq_right}
use native.Mathlib.Omega.{arith}
use borrow.Author.Tests.{lt-leb, le-leb, ne_eqb}
use lib.ListN.{length, get_or, take, drop, length-append, drop_of_length-le}
use lib.Seq.{append_snoc, take_all, length-take-le, paste, take-paste, drop-paste, drop-drop}
use Rattle.std.proofs.Common.{take-append-drop}
use Rattle.std.specs.Prelude.{Option, Some, None}
use Rattle.std.proofs.Math.Seq.{drop-cons}
use Rattle.refusal.specs.declared.Refusal.{Refusal}
use Rattle.text_laws.specs.Pieces.{Partial, longer, Told, UpToStep, has_ended, told_step, byte_of, written_for, Pieced, piece_of, taken_from, taken_of}
use Rattle.text_laws.specs.Steps.{Stepped, ends, step_of}

-- ---- bytes that make no step

pub taken-ended : (t : Partial) (p : List ℕ) → has_ended t.reading.stage ≡ true → taken_of t p ≡ record { text = t; used = length p; step = None }
unfolding taken_of byte_of
taken-ended t [] h = refl
taken-ended t (b ∷ p) h = rw h (ap (λ (k : UpToStep). taken_from None t k) (taken-ended t p h))

abbrev later : ℕ → UpToStep → UpToStep
later n k = record { text = k.text; used = n + k.used; step = k.step }

same_partial : (t : Partial) → t ≡ record { reading = t.reading; line = t.line }
same_partial t = refl

same_taken : (k : UpToStep) → k ≡ later 0 k
same_taken k = ap (λ (i : ℕ). record { text = k.text; used = i; step = k.step }) (omega arith)

-- one byte more before them
shift : (t : Partial) (n : ℕ) (k : UpToStep) → taken_from None t (later n k) ≡ later (suc n) k
shift t n k = ap (λ (i : ℕ). record { text = k.text; used = i; step = k.step }) (omega arith)

taken-front : (t : Partial) (p : List ℕ) (n : ℕ) → has_ended t.reading.stage ≡ false → n ≤ length p → length t.line + n ≤ 2770
    → ((k : ℕ) → k < n → get_or p k 0 ≡ 10 → ⊥) → taken_of t p ≡ later n (taken_of (longer t (take n p)) (drop n p))
unfolding taken_of byte_of
taken-front t p zero e h r f =
    ap (λ (u : Partial). taken_of u p) (same_partial t) ∙ ap (λ (l : List ℕ). taken_of (record { reading = t.reading; line = l }) p) (sym (append-nil t.line))
    ∙ same_taken (taken_of (longer t []) p)
taken-front t [] (suc n) e h r f = absurd (omega arith)
taken-front t (b ∷ p) (suc n) e h r f =
    let m = length-append t.line (b ∷ []) in
    rw (e, ne_eqb b 10 (f 0 (omega arith)), lt-leb 2770 (length t.line) (omega arith))
    (ap (taken_from None t) (taken-front (longer t (b ∷ [])) p n e (omega arith) (omega arith) (λ k l. f (suc k) (omega arith)))
    ∙ ap (λ (l : List ℕ). taken_from None t (later n (taken_of (record { reading = t.reading; line = l }) (drop n p)))) (append_snoc t.line b (take n p))
    ∙ shift t n (taken_of (longer t (b ∷ take n p)) (drop n p)))

-- ---- what is taken of a piece

-- what the byte after n does
abbrev pub used_up : ℕ → Told → UpToStep
used_up n k = record { text = k.text; used = n + 1; step = k.step }

abbrev step_after : ℕ → Stepped → UpToStep
step_after n s = used_up n (told_step s)

-- n bytes that make no step
abbrev pub none_after : ℕ → Partial → UpToStep
none_after n u = record { text = u; used = n; step = None }

module _ (t : Partial) (p : List ℕ) (n : ℕ) (e : has_ended t.reading.stage ≡ false) (plain : (k : ℕ) → k < n → get_or p k 0 ≡ 10 → ⊥) where
  -- no newline, and room for all of it
  pub taken-whole : n ≡ length p → length t.line + n ≤ 2770 → taken_of t p ≡ record { text = longer t p; used = n; step = None }
  unfolding taken_of
  taken-whole h r =
      taken-front t p n e (omega arith) r plain
      ∙ ap₂ (λ (a b : List ℕ). later n (taken_of (longer t a) b)) (take_all n p (omega arith)) (drop_of_length-le p {i = n} (omega arith))
      ∙ ap (λ (i : ℕ). record { text = longer t p; used = i; step = None }) (omega arith)

  -- a newline at n
  pub taken-newline : n < length p → length t.line + n ≤ 2770 → get_or p n 0 ≡ 10 → taken_of t p ≡ step_after n (step_of t.reading (t.line ++ take n p))
  unfolding taken_of byte_of
  taken-newline h r q =
      taken-front t p n e (omega arith) r plain
      ∙ ap (λ (b : List ℕ). later n (taken_of (longer t (take n p)) b)) (drop-cons p n 0 h ∙ ap (λ (x : ℕ). x ∷ drop (suc n) p) q)
      ∙ rw e

  -- the line is as long as any table's, and does not end there
  pub taken-too-long : n < length p → length t.line + n ≡ 2770 → (get_or p n 0 ≡ 10 → ⊥) → taken_of t p ≡ step_after n (ends Refusal.Text t.reading)
  unfolding taken_of byte_of
  taken-too-long h r q =
      let l = length-append t.line (take n p) in
      let m : length (take n p) ≡ n = length-take-le n p (omega arith) in
      taken-front t p n e (omega arith) (omega arith) plain
      ∙ ap (λ (b : List ℕ). later n (taken_of (longer t (take n p)) b)) (drop-cons p n 0 h)
      ∙ rw (e, ne_eqb (get_or p n 0) 10 q, le-leb 2770 (length (t.line ++ take n p)) (omega arith))

-- ---- a piece, step by step

-- a piece after what is taken of it
abbrev pieced_after : UpToStep → List ℕ → Pieced
pieced_after k p = record { text = (piece_of k.text (drop k.used p)).text; written = written_for k.step ++ (piece_of k.text (drop k.used p)).written }

pub piece-taken : (t : Partial) (p : List ℕ) → piece_of t p ≡ pieced_after (taken_of t p) p
unfolding taken_of piece_of
piece-taken t [] = refl
piece-taken t (b ∷ p) = go (byte_of t b).step (piece-taken (byte_of t b).text p)
  where
    go : (s : Option Stepped) → piece_of (byte_of t b).text p ≡ pieced_after (taken_of (byte_of t b).text p) p
        → record { text = (piece_of (byte_of t b).text p).text; written = written_for s ++ (piece_of (byte_of t b).text p).written } ≡ pieced_after (taken_from s (byte_of t b).text (taken_of (byte_of t b).text p)) (b ∷ p)
    go (Some s) h = refl
    go None h = h

-- the text after two parts is that after the whole
pub piece-parts : (n : ℕ) (t : Partial) (p : List ℕ) → (piece_of (piece_of t (take n p)).text (drop n p)).text ≡ (piece_of t p).text
unfolding piece_of
piece-parts zero t p = refl
piece-parts (suc n) t [] = refl
piece-parts (suc n) t (b ∷ p) = piece-parts n (byte_of t b).text p

-- ---- a piece read into an array

module _ (t : Partial) (p : List ℕ) (used : ℕ) where
  -- what is left of the piece
  abbrev left : List ℕ
  left = drop used p

  abbrev next : UpToStep
  next = taken_of t left

  after-step : piece_of t left ≡ record { text = (piece_of next.text (drop (used + next.used) p)).text; written = written_for next.step ++ (piece_of next.text (drop (used + next.used) p)).written }
  after-step =
      piece-taken t left
      ∙ ap (λ (s : List ℕ). record { text = (piece_of next.text s).text; written = written_for next.step ++ (piece_of next.text s).written }) (drop-drop next.used used p)

  pub step_text : (w : Partial) → (piece_of t left).text ≡ w → (piece_of next.text (drop (used + next.used) p)).text ≡ w
  step_text w h = sym (ap (λ (k : Pieced). k.text) after-step) ∙ h

  -- from `at` on the bytes of the step stand behind those that are there
  pub step_written : (out : List ℕ) (at n : ℕ) (w : List ℕ) → at ≤ length out → n ≡ length (written_for next.step)
      → take at out ++ (piece_of t left).written ≡ w
      → take (at + n) (paste out at (written_for next.step) n) ++ (piece_of next.text (drop (used + next.used) p)).written ≡ w
  step_written out at n w room e h =
      let b = written_for next.step in
      let rest = (piece_of next.text (drop (used + next.used) p)).written in
      ap (λ (s : List ℕ). s ++ rest) (take-paste out at b n room (omega arith) ∙ ap (λ (s : List ℕ). take at out ++ s) (take_all n b (omega arith)))
      ∙ append_assoc (take at out) b rest ∙ ap (λ (s : List ℕ). take at out ++ s) (sym (ap (λ (k : Pieced). k.written) after-step)) ∙ h

pub step_left : (out before b : List ℕ) (at n : ℕ) → at ≤ length out → n ≤ length b → drop at out ≡ drop at before → drop (at + n) (paste out at b n) ≡ drop (at + n) before
step_left out before b at n room e h = drop-paste out at b n room e ∙ sym (drop-drop n at out) ∙ ap (drop n) h ∙ drop-drop n at before

-- ---- at the end of a piece

module _ (t : Partial) (p : List ℕ) (used : ℕ) (done : length p ≤ used) where
  all_read : piece_of t (drop used p) ≡ record { text = t; written = [] }
  unfolding piece_of
  all_read = ap (piece_of t) (drop_of_length-le p {i = used} done)

  pub end_text : (w : Partial) → (piece_of t (drop used p)).text ≡ w → t ≡ w
  end_text w h = sym (ap (λ (k : Pieced). k.text) all_read) ∙ h

  module _ (out before : List ℕ) (len : ℕ) (w : List ℕ) (room : len ≤ length out) (h : take len out ++ (piece_of t (drop used p)).written ≡ w) where
    end_written : take len out ≡ w
    end_written = sym (append-nil (take len out)) ∙ ap (λ (k : Pieced). take len out ++ k.written) (sym all_read) ∙ h

    pub end_count : len ≡ length w
    end_count = sym (length-take-le len out room) ∙ ap length end_written

    pub end_bytes : drop len out ≡ drop len before → out ≡ w ++ drop (length w) before
    end_bytes l = sym (take-append-drop len out) ∙ ap₂ (λ (a b : List ℕ). a ++ b) end_written (l ∙ ap (λ (n : ℕ). drop n before) end_count)

-- as many as there are, up to n
pub take-min : (p : List ℕ) (n k : ℕ) → k ≡ min (length p) n → take k p ≡ take n p
take-min p n k e = go (dec_le (length p) n)
  where
    go : Dec (length p ≤ n) → take k p ≡ take n p
    go (yes h) = take_all k p (let m : min (length p) n ≡ length p = min-eq_left h in omega arith) ∙ sym (take_all n p h)
    go (no h) = ap (λ (i : ℕ). take i p) (e ∙ min-eq_right (omega arith))
