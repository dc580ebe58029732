-- What is written for a text, whatever text it is. Assumes nothing.
use Prim.Native.Nat.{ℕ, zero, suc, ◌+◌, ◌≤◌, ◌<◌}
use mathlib.Core.Path.{◌≡◌, refl, sym, ap, ◌∙◌}
use mathlib.Core.Bool.{Bool, true, false, ◌&&◌, ◌||◌}
use mathlib.Core.List.{List, [], ◌∷◌, ◌++◌, append_assoc, append-nil}
use native.Mathlib.Omega.{arith}
use borrow.Author.Tests.{le-leb, leb-true, ne_eqb}
use lib.Dec.{leb}
use Rattle.std.proofs.lemmas.Bool.{or_parts}
use lib.ListN.{length, length-append}
use Rattle.refusal.specs.declared.Refusal.{Refusal}
use Rattle.settings.specs.declared.Settings.{Settings}
use Rattle.settings.specs.Settings.{settings_ok}
use Rattle.sampler_state.specs.declared.Sampler.{Sampler}
use Rattle.sampler_laws.specs.Runs.{end_of}
use Rattle.sampler_state.specs.State.{fresh_of}
use Rattle.text_laws.specs.declared.Event.{Event}
use Rattle.text_laws.specs.declared.Stage.{Stage}
use Rattle.text_laws.specs.Laws.{NoCall, TextAnswers}
use Rattle.propose_lines.specs.Lines.{is_words, words_in, answer_line}
use Rattle.propose_lines.specs.Names.{settings_names, history_names, call_names, answer_names, same_bytes}
use Rattle.text_laws.specs.Steps.{Reading, ends, settings_of, slots_of, row_words, history_named, settings_line, row_line, history_line, call_line, no_sampler, start_of, step_of, finish_of}
use Rattle.text_laws.specs.Texts.{read_of, ended, written_of, line_of, lines_of, Words, Table, joined, Document, WellFormed, slots_in, head_of, text_of, calls_of, answers_to}
use Rattle.propose_lines.proofs.Bytes.{same-equal}
use Rattle.text_laws.proofs.Cut.{plain, read-rest, Cut, no_line, a-line, cut}
use Rattle.text_laws.proofs.LineWords.{words-read-back, line_plain}
use Rattle.text_laws.proofs.Tables.{at, last_line, next-line, read-settings-names, read-settings, read-refused, read-history-names, read-rows, row_step, read-call-names, read-calls}
use Rattle.arith.proofs.Tests.{both}

abbrev line14 : List ℕ
line14 = answer_line 0 0 14 0

few-slots : (s : Settings) → settings_ok s ≡ true → s.slots ≤ 20
unfolding settings_ok
few-slots s h = leb-true s.slots 20 (both _ _ h).1

-- ---- the text of a document, and what follows it

six-parts : (a b n r c l rest : List ℕ) → ((a ++ b) ++ (n ++ (r ++ (c ++ l)))) ++ rest ≡ a ++ (b ++ (n ++ (r ++ (c ++ (l ++ rest)))))
six-parts a b n r c l rest = simp append_assoc

read-document : (d : Document) (rest : List ℕ) → WellFormed d
    → read_of start_of [] (text_of d ++ rest) ≡ answers_to d ++ read_of (at Stage.Calls (end_of (fresh_of (settings_of d.settings)) (calls_of (joined d.rows) d.calls)) (joined d.rows)) [] rest
unfolding start_of text_of answers_to
read-document d rest w =
    let s = fresh_of (settings_of d.settings) in
    let few = few-slots (settings_of d.settings) w.in_range in
    let room = w.room in
    ap (read_of start_of []) (six-parts (ended settings_names) (ended (line_of d.settings)) (ended (history_names (slots_in d))) (lines_of d.rows) (ended call_names) (lines_of d.calls) rest)
    ∙ read-settings-names no_sampler [] _
    ∙ read-settings no_sampler [] d.settings _ w.settings w.in_range
    ∙ read-history-names s [] _ few
    ∙ read-rows s [] d.rows _ few w.rows (omega arith)
    ∙ read-call-names s (joined d.rows) _
    ∙ read-calls s (joined d.rows) d.calls rest w.calls

calls-end : (s : Sampler) (h : List ℕ) → read_of (at Stage.Calls s h) [] [] ≡ []
unfolding read_of finish_of
calls-end s h = refl

whole : (d : Document) → WellFormed d → written_of (text_of d) ≡ ended answer_names ++ answers_to d
unfolding written_of
whole d w =
    ap (λ (l : List ℕ). ended answer_names ++ l)
    (ap (read_of start_of []) (sym (append-nil (text_of d))) ∙ read-document d [] w ∙ ap (λ (l : List ℕ). answers_to d ++ l) (calls-end _ (joined d.rows)) ∙ append-nil (answers_to d))

-- ---- a first line that is judged by a test

-- nothing but 14, where the text's end is, a line that fails is, and one that passes goes on to it
first_line : (r : Reading) (text : List ℕ) (test : List ℕ → Bool)
    → (finish_of r text).written ≡ line14
    → ((line : List ℕ) → test line ≡ false → step_of r line ≡ ends Refusal.Text r)
    → ((line rest : List ℕ) → text ≡ ended line ++ rest → test line ≡ true → read_of r [] text ≡ line14)
    → read_of r [] text ≡ line14
first_line r text test end fails passes = go (cut text)
  where
    judged : (line rest : List ℕ) → plain line ≡ true → text ≡ ended line ++ rest → (x : Bool) → test line ≡ x → read_of r [] text ≡ line14
    judged line rest p q true e = passes line rest q e
    judged line rest p q false e = ap (read_of r []) q ∙ last_line r line rest Refusal.Text p (fails line e)

    go : Cut text → read_of r [] text ≡ line14
    go (no_line p) = read-rest r [] text p ∙ end
    go (a-line line rest p q) = judged line rest p q (test line) refl

-- its first line in place of another spelling of it
line-is : {text line other : List ℕ} (rest : List ℕ) → text ≡ ended line ++ rest → line ≡ other → text ≡ ended other ++ rest
line-is rest q e = q ∙ ap (λ (l : List ℕ). ended l ++ rest) e

-- what follows a first line, in place of what it is
rest-is : {text rest other : List ℕ} (line : List ℕ) → text ≡ ended line ++ rest → rest ≡ other → text ≡ ended line ++ other
rest-is line q e = q ∙ ap (λ (l : List ℕ). ended line ++ l) e

-- ---- malformed once the calls have begun

calls-unfinished : (s : Sampler) (h rest : List ℕ) → (rest ≡ [] → ⊥) → (finish_of (at Stage.Calls s h) rest).written ≡ line14
unfolding finish_of
calls-unfinished s h [] n = absurd (n refl)
calls-unfinished s h (b ∷ rest) n = rw (ne_eqb (suc (length rest)) 0 (λ e. omega arith))

no_call : (s : Sampler) (h rest : List ℕ) → NoCall rest → read_of (at Stage.Calls s h) [] rest ≡ line14
unfolding step_of call_line
no_call s h rest n =
    first_line (at Stage.Calls s h) rest (is_words 7) (calls-unfinished s h rest n.some) (λ line e. rw e)
    (λ line more q e. let b = words-read-back 7 line (omega arith) e in absurd (n.none (words_in 7 line) more b.0 (line-is more q b.1)))

after : (d : Document) (rest : List ℕ) → WellFormed d → NoCall rest → written_of (text_of d ++ rest) ≡ ended answer_names ++ (answers_to d ++ line14)
unfolding written_of
after d rest w n =
    ap (λ (l : List ℕ). ended answer_names ++ l) (read-document d rest w ∙ ap (λ (l : List ℕ). answers_to d ++ l) (no_call _ (joined d.rows) rest n))

-- ---- a setting out of range

refused : (ws rest : List ℕ) → Words 5 ws → settings_ok (settings_of ws) ≡ false → written_of (head_of ws ++ rest) ≡ ended answer_names ++ answer_line 0 0 1 0
unfolding written_of start_of
refused ws rest w out =
    ap (λ (l : List ℕ). ended answer_names ++ l)
    (ap (read_of start_of []) (append_assoc (ended settings_names) (ended (line_of ws)) rest) ∙ read-settings-names no_sampler [] (ended (line_of ws) ++ rest) ∙ read-refused no_sampler [] ws rest w out)

-- ---- malformed before the calls begin

-- no rows and then the names of the calls, as long as the rows fit
unfoldable NoRows : Sampler → List ℕ → List ℕ → Type 0
NoRows s h text = (rows : List (List ℕ)) (rest : List ℕ) → Table (row_words (slots_of s)) rows → length h + length (joined rows) ≤ 8192 → text ≡ lines_of rows ++ (ended call_names ++ rest) → ⊥

module _ (s : Sampler) (few : slots_of s ≤ 20) (h : List ℕ) where
  -- a row for which there is room
  fits : List ℕ → Bool
  fits line = leb (length h + row_words (slots_of s)) 8192 && is_words (row_words (slots_of s)) line

  -- a line that is no row and not the names of the calls: 14
  history-malformed : (line : List ℕ) → (same_bytes line call_names || fits line) ≡ false → step_of (at Stage.History s h) line ≡ ends Refusal.Text (at Stage.History s h)
  unfolding step_of history_line row_line fits
  history-malformed line e = let p = or_parts (same_bytes line call_names) (fits line) e in rw (p.0, le-leb (slots_of s) 20 few, p.1)

  module _ (text : List ℕ) (f : NoRows s h text)
      (go_on : (line rest : List ℕ) → text ≡ ended line ++ rest → (ws : List ℕ) → length (h ++ ws) ≤ 8192 → NoRows s (h ++ ws) rest → read_of (at Stage.History s (h ++ ws)) [] rest ≡ line14) where
    a-row : (line rest : List ℕ) → text ≡ ended line ++ rest → fits line ≡ true → read_of (at Stage.History s h) [] text ≡ line14
    unfolding NoRows Table joined lines_of fits
    a-row line rest q e =
        let k = row_words (slots_of s) in
        let ws = words_in k line in
        let t = both (leb (length h + k) 8192) (is_words k line) e in
        let room = leb-true (length h + k) 8192 t.0 in
        let b = words-read-back k line (omega arith) t.1 in
        let n = length-append h ws in
        let m = b.0.count in
        let u = line-is rest q b.1 in
        ap (read_of (at Stage.History s h) []) u ∙ next-line _ _ Event.Row (line_of ws) rest (line_plain ws) (row_step s h ws few b.0 room)
        ∙ go_on line rest q ws (omega arith)
        (λ rows more t r z.
        let j = length-append ws (joined rows) in
        f (ws ∷ rows) more (b.0, t) (omega arith) (rest-is (line_of ws) u z ∙ sym (append_assoc (ended (line_of ws)) (lines_of rows) (ended call_names ++ more))))

    one_line : length h ≤ 8192 → read_of (at Stage.History s h) [] text ≡ line14
    unfolding NoRows Table joined lines_of finish_of
    one_line room = first_line (at Stage.History s h) text (λ line. same_bytes line call_names || fits line) refl history-malformed (λ line rest q. passes line rest q (same_bytes line call_names) refl)
      where
        passes : (line rest : List ℕ) → text ≡ ended line ++ rest → (x : Bool) → same_bytes line call_names ≡ x → (x || fits line) ≡ true → read_of (at Stage.History s h) [] text ≡ line14
        passes line rest q true e t = absurd (f [] rest tt (omega arith) (line-is rest q (same-equal line call_names e)))
        passes line rest q false e t = a-row line rest q t

ended-length : (text line rest : List ℕ) → text ≡ ended line ++ rest → length rest < length text
ended-length text line rest q =
    let a = length-append (ended line) rest in
    let b = length-append line (10 ∷ []) in
    let n : length text ≡ length (ended line ++ rest) = ap length q in
    omega arith

no_rows : (n : ℕ) (s : Sampler) (h text : List ℕ) → length text ≤ n → slots_of s ≤ 20 → length h ≤ 8192 → NoRows s h text → read_of (at Stage.History s h) [] text ≡ line14
no_rows zero s h text short few room f = one_line s few h text f (λ line rest q ws r g. let m = ended-length text line rest q in absurd (omega arith)) room
no_rows (suc n) s h text short few room f =
    one_line s few h text f (λ line rest q ws r g. let m = ended-length text line rest q in no_rows n s (h ++ ws) rest (omega arith) few r g) room

no_names : (s : Sampler) (text : List ℕ) → slots_of s ≤ 20
    → ((rows : List (List ℕ)) (rest : List ℕ) → Table (row_words (slots_of s)) rows → length (joined rows) ≤ 8192 → text ≡ ended (history_names (slots_of s)) ++ (lines_of rows ++ (ended call_names ++ rest)) → ⊥)
    → read_of (at Stage.HistoryNames s []) [] text ≡ line14
unfolding NoRows step_of finish_of
no_names s text few f =
    first_line (at Stage.HistoryNames s []) text (history_named s) refl (λ line e. rw e)
    (λ line rest q e.
    let t = line-is rest q (same-equal line (history_names (slots_of s)) (both (leb (slots_of s) 20) (same_bytes line (history_names (slots_of s))) e).1) in
    ap (read_of (at Stage.HistoryNames s []) []) t ∙ read-history-names s [] rest few
    ∙ no_rows (length rest) s [] rest (omega arith) few (omega arith) (λ rows more u r z. f rows more u (omega arith) (rest-is (history_names (slots_of s)) t z)))

no-settings : (text : List ℕ)
    → ((ws rest : List ℕ) → Words 5 ws → settings_ok (settings_of ws) ≡ false → text ≡ ended (line_of ws) ++ rest → ⊥)
    → ((ws : List ℕ) (rows : List (List ℕ)) (rest : List ℕ) → Words 5 ws → settings_ok (settings_of ws) ≡ true → Table (row_words (settings_of ws).slots) rows → length (joined rows) ≤ 8192
    → text ≡ ended (line_of ws) ++ (ended (history_names (settings_of ws).slots) ++ (lines_of rows ++ (ended call_names ++ rest))) → ⊥)
    → read_of (at Stage.Settings no_sampler []) [] text ≡ line14
unfolding step_of settings_line finish_of
no-settings text g f =
    first_line (at Stage.Settings no_sampler []) text (is_words 5) refl (λ line e. rw e)
    (λ line rest q e. let b = words-read-back 5 line (omega arith) e in made (words_in 5 line) rest b.0 (line-is rest q b.1) (settings_ok (settings_of (words_in 5 line))) refl)
  where
    made : (ws rest : List ℕ) → Words 5 ws → text ≡ ended (line_of ws) ++ rest → (x : Bool) → settings_ok (settings_of ws) ≡ x → read_of (at Stage.Settings no_sampler []) [] text ≡ line14
    made ws rest w t false e = absurd (g ws rest w e t)
    made ws rest w t true e =
        ap (read_of (at Stage.Settings no_sampler []) []) t ∙ read-settings no_sampler [] ws rest w e
        ∙ no_names (fresh_of (settings_of ws)) rest (few-slots (settings_of ws) e) (λ rows more u r z. f ws rows more w e u r (rest-is (line_of ws) t z))

before : (text : List ℕ)
    → ((d : Document) (rest : List ℕ) → WellFormed d → text ≡ text_of d ++ rest → ⊥)
    → ((ws rest : List ℕ) → Words 5 ws → settings_ok (settings_of ws) ≡ false → text ≡ head_of ws ++ rest → ⊥)
    → written_of text ≡ ended answer_names ++ line14
unfolding written_of start_of text_of lines_of Table step_of finish_of
before text f g =
    ap (λ (l : List ℕ). ended answer_names ++ l)
    (first_line start_of text (λ line. same_bytes line settings_names) refl (λ line e. rw e)
    (λ line rest q e.
    let t = line-is rest q (same-equal line settings_names e) in
    ap (read_of start_of []) t ∙ read-settings-names no_sampler [] rest
    ∙ no-settings rest
    (λ ws more w o z. g ws more w o (rest-is settings_names t z ∙ sym (append_assoc (ended settings_names) (ended (line_of ws)) more)))
    (λ ws rows more w i u r z. f (record { settings = ws; rows = rows; calls = [] }) more (record { settings = w; in_range = i; rows = u; room = r; calls = tt })
    (rest-is settings_names t z ∙ sym (six-parts (ended settings_names) (ended (line_of ws)) (ended (history_names (settings_of ws).slots)) (lines_of rows) (ended call_names) [] more)))))

pub text_answers : TextAnswers
text_answers = record { whole = whole; after = after; refused = refused; before = before }
