-- The tables of a text, one after the other, as they are read. Assumes nothing.
use Prim.Native.Nat.{ℕ, zero, suc, ◌+◌, ◌≤◌}
use mathlib.Core.Path.{◌≡◌, refl, sym, ap, subst, ◌∙◌}
use mathlib.Core.Bool.{Bool, true, false, false≢true}
use mathlib.Core.List.{List, [], ◌∷◌, ◌++◌, append_assoc, append-nil}
use native.Mathlib.Omega.{arith}
use borrow.Author.Tests.{le-leb}
use lib.ListN.{length, get_or, length-append}
use Rattle.refusal.specs.declared.Refusal.{Refusal}
use Rattle.refusal.specs.Numbers.{cause_number}
use Rattle.settings.specs.Settings.{settings_ok}
use Rattle.sampler_state.specs.declared.Sampler.{Sampler}
use Rattle.sampler_laws.specs.Runs.{answers_of, end_of}
use Rattle.sampler_state.specs.State.{make_of, fresh_of}
use Rattle.text_laws.specs.declared.Event.{Event}
use Rattle.text_laws.specs.declared.Stage.{Stage}
use Rattle.propose_lines.specs.Lines.{is_words, answer_line}
use Rattle.propose_lines.specs.Names.{settings_names, row_names, slot_names, slots_names, history_names, call_names, same_bytes}
use Rattle.text_laws.specs.Steps.{Reading, Stepped, ends, settings_of, made_of, sampled_of, told_line, answered_of, slots_of, row_words, settings_line, row_line, history_line, call_line, step_of}
use Rattle.text_laws.specs.Texts.{read_of, ended, line_of, lines_of, Words, Table, joined, calls_of, answer_lines}
use Rattle.propose_lines.proofs.Bytes.{same_self, same-equal}
use Rattle.text_laws.proofs.Cut.{plain, plain-append, read-ended, silent}
use Rattle.text_laws.proofs.LineWords.{words-printed, line_plain, names-no-words}

abbrev pub at : Stage → Sampler → List ℕ → Reading
at stage s h = record { stage = stage; sampler = s; history = h }

-- a line that ends the run: its number is the last that is written
pub last_line : (r : Reading) (line rest : List ℕ) (n : Refusal) → plain line ≡ true → step_of r line ≡ ends n r → read_of r [] (ended line ++ rest) ≡ answer_line 0 0 (cause_number n) 0
last_line r line rest n p e =
    read-ended r line rest p
    ∙ ap (λ (t : Stepped). t.written ++ read_of t.reading [] rest) e
    ∙ ap (λ (l : List ℕ). answer_line 0 0 (cause_number n) 0 ++ l) (silent r.sampler r.history [] rest)
    ∙ append-nil (answer_line 0 0 (cause_number n) 0)

-- a line after which another is awaited
pub next-line : (r next : Reading) (event : Event) (line rest : List ℕ) → plain line ≡ true → step_of r line ≡ record { reading = next; event = event; written = [] } → read_of r [] (ended line ++ rest) ≡ read_of next [] rest
next-line r next event line rest p e = read-ended r line rest p ∙ ap (λ (t : Stepped). t.written ++ read_of t.reading [] rest) e

-- ---- names lines

slots-plain : (n : ℕ) → plain (slots_names n) ≡ true
unfolding slots_names plain
slots-plain zero = refl
slots-plain (suc n) = plain-append slot_names (slots_names n) refl (slots-plain n)

pub read-settings-names : (s : Sampler) (h rest : List ℕ) → read_of (at Stage.SettingsNames s h) [] (ended settings_names ++ rest) ≡ read_of (at Stage.Settings s h) [] rest
unfolding step_of plain
read-settings-names s h rest = next-line _ _ Event.Names settings_names rest refl (rw (same_self settings_names))

pub read-history-names : (s : Sampler) (h rest : List ℕ) → slots_of s ≤ 20 → read_of (at Stage.HistoryNames s h) [] (ended (history_names (slots_of s)) ++ rest) ≡ read_of (at Stage.History s h) [] rest
unfolding step_of plain
read-history-names s h rest few =
    next-line _ _ Event.Names (history_names (slots_of s)) rest (plain-append row_names (slots_names (slots_of s)) refl (slots-plain (slots_of s))) (rw (le-leb (slots_of s) 20 few, same_self (history_names (slots_of s))))

pub read-call-names : (s : Sampler) (h rest : List ℕ) → read_of (at Stage.History s h) [] (ended call_names ++ rest) ≡ read_of (at Stage.Calls s h) [] rest
unfolding step_of history_line plain
read-call-names s h rest = next-line _ _ Event.CallsBegin call_names rest refl (rw (same_self call_names))

-- ---- the settings

module _ (s : Sampler) (h ws rest : List ℕ) (w : Words 5 ws) where
  settings-step : step_of (at Stage.Settings s h) (line_of ws) ≡ made_of (make_of (settings_of ws)) (at Stage.Settings s h)
  unfolding step_of settings_line
  settings-step = let p = words-printed 5 ws w in rw (p.0, p.1)

  pub read-settings : settings_ok (settings_of ws) ≡ true → read_of (at Stage.Settings s h) [] (ended (line_of ws) ++ rest) ≡ read_of (at Stage.HistoryNames (fresh_of (settings_of ws)) h) [] rest
  unfolding make_of
  read-settings ok = next-line _ _ Event.Settings (line_of ws) rest (line_plain ws) (settings-step ∙ rw ok)

  pub read-refused : settings_ok (settings_of ws) ≡ false → read_of (at Stage.Settings s h) [] (ended (line_of ws) ++ rest) ≡ answer_line 0 0 1 0
  unfolding make_of
  read-refused out = last_line _ (line_of ws) rest Refusal.Settings (line_plain ws) (settings-step ∙ rw out)

-- ---- the history

pub row_step : (s : Sampler) (h ws : List ℕ) → slots_of s ≤ 20 → Words (row_words (slots_of s)) ws → length h + row_words (slots_of s) ≤ 8192 → step_of (at Stage.History s h) (line_of ws) ≡ record { reading = at Stage.History s (h ++ ws); event = Event.Row; written = [] }
unfolding step_of history_line row_line
row_step s h ws few w room =
    let p = words-printed (row_words (slots_of s)) ws w in
    rw (not-names (same_bytes (line_of ws) call_names) refl p.0, le-leb (slots_of s) 20 few, le-leb (length h + row_words (slots_of s)) 8192 room, p.0, p.1)
  where
    -- words are no names
    not-names : (x : Bool) → same_bytes (line_of ws) call_names ≡ x → is_words (row_words (slots_of s)) (line_of ws) ≡ true → same_bytes (line_of ws) call_names ≡ false
    not-names false e i = e
    not-names true e i = absurd (false≢true (sym (names-no-words (row_words (slots_of s)) (omega arith)) ∙ subst (λ (l : List ℕ). is_words (row_words (slots_of s)) l ≡ true) (same-equal (line_of ws) call_names e) i))

pub read-rows : (s : Sampler) (h : List ℕ) (rows : List (List ℕ)) (rest : List ℕ) → slots_of s ≤ 20 → Table (row_words (slots_of s)) rows → length h + length (joined rows) ≤ 8192
    → read_of (at Stage.History s h) [] (lines_of rows ++ rest) ≡ read_of (at Stage.History s (h ++ joined rows)) [] rest
unfolding lines_of Table joined
read-rows s h [] rest few t room = ap (λ (l : List ℕ). read_of (at Stage.History s l) [] rest) (sym (append-nil h))
read-rows s h (ws ∷ rows) rest few t room =
    let n = t.0.count in
    let a = length-append ws (joined rows) in
    let b = length-append h ws in
    ap (read_of (at Stage.History s h) []) (append_assoc (ended (line_of ws)) (lines_of rows) rest)
    ∙ next-line _ _ Event.Row (line_of ws) (lines_of rows ++ rest) (line_plain ws) (row_step s h ws few t.0 (omega arith))
    ∙ read-rows s (h ++ ws) rows rest few t.1 (omega arith)
    ∙ ap (λ (l : List ℕ). read_of (at Stage.History s l) [] rest) (append_assoc h ws (joined rows))

-- ---- the calls

call_step : (s : Sampler) (h ws : List ℕ) → Words 7 ws → step_of (at Stage.Calls s h) (line_of ws) ≡ answered_of (get_or ws 0 0) (sampled_of (at Stage.Calls s h) ws) (at Stage.Calls s h)
unfolding step_of call_line
call_step s h ws w = let p = words-printed 7 ws w in rw (p.0, p.1)

pub read-calls : (s : Sampler) (h : List ℕ) (calls : List (List ℕ)) (rest : List ℕ) → Table 7 calls
    → read_of (at Stage.Calls s h) [] (lines_of calls ++ rest) ≡ answer_lines calls (answers_of s (calls_of h calls)) ++ read_of (at Stage.Calls (end_of s (calls_of h calls)) h) [] rest
unfolding lines_of Table calls_of answer_lines answers_of end_of
read-calls s h [] rest t = refl
read-calls s h (ws ∷ calls) rest t =
    let r = at Stage.Calls s h in
    let a = sampled_of r ws in
    ap (read_of r []) (append_assoc (ended (line_of ws)) (lines_of calls) rest)
    ∙ read-ended r (line_of ws) (lines_of calls ++ rest) (line_plain ws)
    ∙ ap (λ (x : Stepped). x.written ++ read_of x.reading [] (lines_of calls ++ rest)) (call_step s h ws t.0)
    ∙ ap (λ (l : List ℕ). told_line (get_or ws 0 0) a.answer ++ l) (read-calls a.sampler h calls rest t.1)
    ∙ sym (append_assoc (told_line (get_or ws 0 0) a.answer) _ _)
