-- Lines of words: printed and read again. Assumes nothing.
use Rattle.std.specs.Prelude.{Option, Some, None}
use Prim.Native.Nat.{ℕ, zero, suc, ◌+◌, ◌*◌, ◌-◌, ◌≤◌, ◌<◌}
use mathlib.Core.Path.{◌≡◌, refl, sym, ap, ap₂, subst, ◌∙◌}
use mathlib.Core.Bool.{Bool, true, false, ◌&&◌, false≢true, and_assoc, and-true, and-false}
use mathlib.Core.List.{List, [], ◌∷◌, ◌++◌}
use native.Mathlib.Omega.{arith}
use borrow.Author.Tests.{eq-eqb, ne_eqb, eqb-true, eqb-false}
use lib.Dec.{eqb, ltb}
use lib.ListN.{length, get_or, take, drop, length-append}
use lib.Seq.{split_at, take_at, take_all, drop-append-add, get_or-append-add, get_or_at, length-take-le}
use Rattle.std.proofs.Math.Facts.{eqb_yes, yes_eqb}
use Rattle.arith.specs.Lists.{every, grown, list_of}
use Rattle.arith.proofs.Lists.{every-not, every-same, list_same}
use Rattle.word_text.specs.Digits.{value_of, all_digits, digits_of, parse_of}
use Rattle.word_text.proofs.Digits.{length_last, all-last}
use Rattle.word_text.proofs.RoundTrip.{reads, prints}
use Rattle.propose_lines.specs.Lines.{word_at, is_word, word_of, spaced_of, is_words, words_in}
use Rattle.propose_lines.specs.Names.{call_names}
use Rattle.text_laws.specs.Texts.{line_of, Sized, Words}
use Rattle.propose_lines.proofs.Words.{words_length}
use Rattle.text_laws.proofs.Cut.{plain, plain-append}
use Rattle.arith.proofs.Tests.{both, iff}

-- ---- tests and lists from the front

every_front : (n : ℕ) (t : ℕ → Bool) → every (suc n) t ≡ (t 0 && every n (λ i. t (suc i)))
unfolding every
every_front zero t = sym (and-true (t 0))
every_front (suc n) t = ap (λ (b : Bool). b && t (suc n)) (every_front n t) ∙ and_assoc (t 0) (every n (λ i. t (suc i))) (t (suc n))

list-front : (f : ℕ → ℕ) (n : ℕ) → list_of f (suc n) ≡ f 0 ∷ list_of (λ i. f (suc i)) n
unfolding grown
list-front f zero = refl
list-front f (suc n) = ap (λ (l : List ℕ). l ++ (f (suc n) ∷ [])) (list-front f n)

eqb_same : (a b c d : ℕ) → (a ≡ b → c ≡ d) → (c ≡ d → a ≡ b) → eqb a b ≡ eqb c d
eqb_same a b c d f g = iff (eqb a b) (eqb c d) (λ t. yes_eqb (f (eqb_yes t))) (λ t. yes_eqb (g (eqb_yes t)))

-- ---- the first word of a line

module _ (a rest : List ℕ) (l : length a ≡ 16) where
  past : (i : ℕ) → drop (17 * suc i) (a ++ (32 ∷ rest)) ≡ drop (17 * i) rest
  past i =
      let e : 17 * suc i ≡ length a + suc (17 * i) = omega arith in
      ap (λ (n : ℕ). drop n (a ++ (32 ∷ rest))) e ∙ drop-append-add a (32 ∷ rest) (suc (17 * i))

  first_word : word_at (a ++ (32 ∷ rest)) 0 ≡ parse_of a
  unfolding word_at
  first_word = ap parse_of (take_at a (32 ∷ rest) 16 l)

  later-word : (i : ℕ) → word_at (a ++ (32 ∷ rest)) (suc i) ≡ word_at rest i
  unfolding word_at
  later-word i = ap (λ (s : List ℕ). parse_of (take 16 s)) (past i)

  later-byte : (i : ℕ) → get_or (a ++ (32 ∷ rest)) (17 * suc i + 16) 0 ≡ get_or rest (17 * i + 16) 0
  later-byte i =
      let e : 17 * suc i + 16 ≡ length a + suc (17 * i + 16) = omega arith in
      ap (λ (n : ℕ). get_or (a ++ (32 ∷ rest)) n 0) e ∙ get_or-append-add a (32 ∷ rest) (suc (17 * i + 16)) 0

  spaces : (k : ℕ) → spaced_of (suc (suc k)) (a ++ (32 ∷ rest)) ≡ spaced_of (suc k) rest
  spaces k =
      let t : ℕ → Bool = λ i. eqb (get_or (a ++ (32 ∷ rest)) (17 * i + 16) 0) 32 in
      let one : suc (suc k) - 1 ≡ suc k = omega arith in
      let none : suc k - 1 ≡ k = omega arith in
      let space : t 0 ≡ true = eq-eqb _ 32 (get_or_at a 32 rest 0 16 l) in
      ap (λ (n : ℕ). every n t) one ∙ every_front k t ∙ ap (λ (b : Bool). b && every k (λ i. t (suc i))) space
      ∙ every-same k _ _ (λ i h. ap (λ (x : ℕ). eqb x 32) (later-byte i)) ∙ ap (λ (n : ℕ). every n (λ i. eqb (get_or rest (17 * i + 16) 0) 32)) (sym none)

  -- a line of several words is one word, a space and the others
  pub more-words : (k : ℕ) → is_words (suc (suc k)) (a ++ (32 ∷ rest)) ≡ (is_word (parse_of a) && is_words (suc k) rest)
  unfolding is_words
  more-words k =
      let n : eqb (length (a ++ (32 ∷ rest)) + 1) (17 * suc (suc k)) ≡ eqb (length rest + 1) (17 * suc k) = (let m = length-append a (32 ∷ rest) in eqb_same (length (a ++ (32 ∷ rest)) + 1) (17 * suc (suc k)) (length rest + 1) (17 * suc k) (λ e. omega arith) (λ e. omega arith)) in
      let s : spaced_of (suc (suc k)) (a ++ (32 ∷ rest)) ≡ spaced_of (suc k) rest = spaces k in
      let w : every (suc (suc k)) (λ i. is_word (word_at (a ++ (32 ∷ rest)) i)) ≡ (is_word (parse_of a) && every (suc k) (λ i. is_word (word_at rest i))) = every_front (suc k) _ ∙ ap₂ (λ (p q : Bool). p && q) (ap is_word first_word) (every-same (suc k) _ _ (λ i h. ap is_word (later-word i))) in
      rw (n, s, w) (regroup (eqb (length rest + 1) (17 * suc k)) (spaced_of (suc k) rest) (is_word (parse_of a)) (every (suc k) (λ i. is_word (word_at rest i))))
    where
      regroup : (n s f w : Bool) → (n && s && (f && w)) ≡ (f && (n && s && w))
      regroup n s f w = grind arith

  pub words-front : (k : ℕ) → words_in (suc (suc k)) (a ++ (32 ∷ rest)) ≡ word_of (parse_of a) ∷ words_in (suc k) rest
  unfolding words_in
  words-front k = list-front _ (suc k) ∙ ap₂ (λ (x : ℕ) (l : List ℕ). x ∷ l) (ap word_of first_word) (list_same _ _ (suc k) (λ i h. ap word_of (later-word i)))

-- a line of one word
pub one_word : (line : List ℕ) → is_words 1 line ≡ is_word (parse_of line)
unfolding is_words word_at every
one_word line = go (eqb (length line) 16) refl
  where
    go : (x : Bool) → eqb (length line) 16 ≡ x → is_words 1 line ≡ is_word (parse_of line)
    go true e =
        let n : length line ≡ 16 = eqb-true (length line) 16 e in
        rw (eq-eqb (length line + 1) 17 (omega arith), take_all 16 line (omega arith))
    go false e = rw (ne_eqb (length line + 1) 17 (λ q. eqb-false (length line) 16 e (omega arith)), e)

pub one-word-in : (line : List ℕ) → length line ≡ 16 → words_in 1 line ≡ word_of (parse_of line) ∷ []
unfolding words_in word_at grown
one-word-in line n = ap (λ (s : List ℕ). word_of (parse_of s) ∷ []) (take_all 16 line (omega arith))

-- ---- printed, then read

printed : (w : ℕ) (ws : List ℕ) → Sized (w ∷ ws) → (is_words (suc (length ws)) (line_of (w ∷ ws)) ≡ true) × (words_in (suc (length ws)) (line_of (w ∷ ws)) ≡ w ∷ ws)
unfolding line_of Sized
printed w [] s =
    (one_word (digits_of w) ∙ ap is_word (reads w s.0), one-word-in (digits_of w) (length_last 16 w) ∙ ap (λ (p : Option ℕ). word_of p ∷ []) (reads w s.0))
printed w (v ∷ ws) s =
    let l = length_last 16 w in
    let i = printed v ws s.1 in (
      more-words (digits_of w) (line_of (v ∷ ws)) l (length ws) ∙ ap₂ (λ (p : Option ℕ) (b : Bool). is_word p && b) (reads w s.0) i.0,
      words-front (digits_of w) (line_of (v ∷ ws)) l (length ws) ∙ ap₂ (λ (p : Option ℕ) (t : List ℕ). word_of p ∷ t) (reads w s.0) i.1,
    )

pub words-printed : (k : ℕ) (ws : List ℕ) → Words k ws → (is_words k (line_of ws) ≡ true) × (words_in k (line_of ws) ≡ ws)
words-printed k [] h = let e : 0 ≡ k = h.count in let m = h.some in absurd (omega arith)
words-printed k (w ∷ ws) h =
    subst (λ (n : ℕ). (is_words n (line_of (w ∷ ws)) ≡ true) × (words_in n (line_of (w ∷ ws)) ≡ w ∷ ws)) h.count (printed w ws h.sized)

-- ---- read, then printed

is_word_lem : (p : Option ℕ) → is_word p ≡ true → p ≡ Some (word_of p)
is_word_lem (Some w) h = refl
is_word_lem None h = absurd (false≢true h)

line-cons : (w : ℕ) (ws : List ℕ) → 0 < length ws → line_of (w ∷ ws) ≡ digits_of w ++ (32 ∷ line_of ws)
unfolding line_of
line-cons w [] h = absurd (omega arith)
line-cons w (v ∷ ws) h = refl

-- what the test of a line says of its length and its spaces
laid-out : (k : ℕ) (line : List ℕ) → is_words k line ≡ true → (length line + 1 ≡ 17 * k) × (spaced_of k line ≡ true)
unfolding is_words
laid-out k line h =
    let b = both (eqb (length line + 1) (17 * k)) (spaced_of k line) (both _ _ h).0 in
    (eqb-true (length line + 1) (17 * k) b.0, b.1)

first-space : (k : ℕ) (line : List ℕ) → is_words (suc (suc k)) line ≡ true → get_or line 16 0 ≡ 32
first-space k line h =
    let t : ℕ → Bool = λ i. eqb (get_or line (17 * i + 16) 0) 32 in
    let one : suc (suc k) - 1 ≡ suc k = omega arith in
    eqb-true (get_or line 16 0) 32 (both (t 0) (every k (λ i. t (suc i))) (sym (every_front k t) ∙ ap (λ (n : ℕ). every n t) (sym one) ∙ (laid-out (suc (suc k)) line h).1)).0

read_back : (k : ℕ) (line : List ℕ) → is_words (suc k) line ≡ true → (line ≡ line_of (words_in (suc k) line)) × Sized (words_in (suc k) line)
unfolding Sized
read_back zero line h =
    let p = is_word_lem (parse_of line) (sym (one_word line) ∙ h) in
    let d = prints line (word_of (parse_of line)) p in
    let n : length line ≡ 16 = ap length d.0 ∙ length_last 16 (word_of (parse_of line)) in
    rw (one-word-in line n) (d.0 ∙ unfold line_of in refl, (d.1, tt))
read_back (suc k) line h =
    let n = (laid-out (suc (suc k)) line h).0 in
    let a = take 16 line in
    let rest = drop 17 line in
    let l : length a ≡ 16 = length-take-le 16 line (omega arith) in
    let q : line ≡ a ++ (32 ∷ rest) = split_at line 16 0 (omega arith) ∙ ap (λ (b : ℕ). a ++ (b ∷ rest)) (first-space k line h) in
    let t = both (is_word (parse_of a)) (is_words (suc k) rest) (sym (more-words a rest l k) ∙ subst (λ (s : List ℕ). is_words (suc (suc k)) s ≡ true) q h) in
    let i = read_back k rest t.1 in
    let w = word_of (parse_of a) in
    let d = prints a w (is_word_lem (parse_of a) t.0) in
    let ws : words_in (suc (suc k)) line ≡ w ∷ words_in (suc k) rest = ap (words_in (suc (suc k))) q ∙ words-front a rest l k in
    let m = words_length (suc k) rest in
    rw ws
    (q ∙ ap₂ (λ (x y : List ℕ). x ++ (32 ∷ y)) d.0 i.0 ∙ sym (line-cons w (words_in (suc k) rest) (omega arith)), (d.1, i.1))

pub words-read-back : (k : ℕ) (line : List ℕ) → 1 ≤ k → is_words k line ≡ true → Words k (words_in k line) × (line ≡ line_of (words_in k line))
words-read-back zero line m h = absurd (omega arith)
words-read-back (suc k) line m h = let b = read_back k line h in (record { some = m; count = words_length (suc k) line; sized = b.1 }, b.0)

-- ---- names are no words

first-name : is_word (word_at call_names 0) ≡ false
unfolding word_at all_digits
first-name = refl

pub names-no-words : (k : ℕ) → 1 ≤ k → is_words k call_names ≡ false
unfolding is_words
names-no-words k m = rw (every-not k (λ i. is_word (word_at call_names i)) 0 (omega arith) first-name) (and-false (eqb (length call_names + 1) (17 * k) && spaced_of k call_names))

-- ---- no newline in them

digit-plain : (b : ℕ) → ltb (value_of b) 16 ≡ true → eqb b 10 ≡ false
digit-plain b h = ne_eqb b 10 (λ e. false≢true (subst (λ (c : ℕ). ltb (value_of c) 16 ≡ true) e h))

digits-plain : (s : List ℕ) → all_digits s ≡ true → plain s ≡ true
unfolding all_digits plain
digits-plain [] h = refl
digits-plain (b ∷ s) h = let d = both (ltb (value_of b) 16) (all_digits s) h in rw (digit-plain b d.0) (digits-plain s d.1)

pub line_plain : (ws : List ℕ) → plain (line_of ws) ≡ true
unfolding line_of plain
line_plain [] = refl
line_plain (w ∷ []) = digits-plain (digits_of w) (all-last 16 w)
line_plain (w ∷ v ∷ ws) = plain-append (digits_of w) (32 ∷ line_of (v ∷ ws)) (digits-plain (digits_of w) (all-last 16 w)) (line_plain (v ∷ ws))
