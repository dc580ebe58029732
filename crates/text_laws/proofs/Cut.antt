-- A text cut at its newlines. Assumes nothing.
use Prim.Native.Nat.{ℕ}
use mathlib.Core.Path.{◌≡◌, refl, sym, ap, ◌∙◌}
use mathlib.Core.Bool.{Bool, true, false, not, ◌&&◌, cond}
use mathlib.Core.List.{List, [], ◌∷◌, ◌++◌, append-nil}
use lib.Dec.{eqb}
use lib.Seq.{append_snoc}
use borrow.Author.Tests.{eqb-true}
use Rattle.arith.proofs.Tests.{both}
use Rattle.std.proofs.lemmas.Bool.{not-true}
use Rattle.sampler_state.specs.declared.Sampler.{Sampler}
use Rattle.text_laws.specs.declared.Stage.{Stage}
use Rattle.text_laws.specs.Steps.{Reading, step_of, finish_of}
use Rattle.text_laws.specs.Texts.{read_of, ended}

-- a line: no newline in it
unfoldable pub plain : List ℕ → Bool
plain [] = true
plain (b ∷ s) = not (eqb b 10) && plain s

plain-first : (b : ℕ) (s : List ℕ) → plain (b ∷ s) ≡ true → (eqb b 10 ≡ false) × (plain s ≡ true)
unfolding plain
plain-first b s h = let p = both (not (eqb b 10)) (plain s) h in (not-true (eqb b 10) p.0, p.1)

pub plain-append : (s t : List ℕ) → plain s ≡ true → plain t ≡ true → plain (s ++ t) ≡ true
unfolding plain
plain-append [] t p q = q
plain-append (b ∷ s) t p q = let f = plain-first b s p in rw f.0 (plain-append s t f.1 q)

pub read-line : (r : Reading) (so_far line rest : List ℕ) → plain line ≡ true
    → read_of r so_far (line ++ (10 ∷ rest)) ≡ (step_of r (so_far ++ line)).written ++ read_of (step_of r (so_far ++ line)).reading [] rest
unfolding read_of
read-line r so_far [] rest p = ap (λ (l : List ℕ). (step_of r l).written ++ read_of (step_of r l).reading [] rest) (sym (append-nil so_far))
read-line r so_far (b ∷ s) rest p =
    let f = plain-first b s p in
    rw f.0 (read-line r (so_far ++ (b ∷ [])) s rest f.1 ∙ ap (λ (l : List ℕ). (step_of r l).written ++ read_of (step_of r l).reading [] rest) (append_snoc so_far b s))

-- with its newline
pub read-ended : (r : Reading) (line rest : List ℕ) → plain line ≡ true → read_of r [] (ended line ++ rest) ≡ (step_of r line).written ++ read_of (step_of r line).reading [] rest
read-ended r line rest p = ap (read_of r []) (append_snoc line 10 rest) ∙ read-line r [] line rest p

-- without one
pub read-rest : (r : Reading) (so_far line : List ℕ) → plain line ≡ true → read_of r so_far line ≡ (finish_of r (so_far ++ line)).written
unfolding read_of
read-rest r so_far [] p = ap (λ (l : List ℕ). (finish_of r l).written) (sym (append-nil so_far))
read-rest r so_far (b ∷ s) p =
    let f = plain-first b s p in
    rw f.0 (read-rest r (so_far ++ (b ∷ [])) s f.1 ∙ ap (λ (l : List ℕ). (finish_of r l).written) (append_snoc so_far b s))

-- nothing is written once the run has ended
pub silent : (s : Sampler) (h so_far text : List ℕ) → read_of (record { stage = Stage.Ended; sampler = s; history = h }) so_far text ≡ []
unfolding read_of step_of finish_of
silent s h so_far [] = refl
silent s h so_far (b ∷ text) = go (eqb b 10) (silent s h [] text) (silent s h (so_far ++ (b ∷ [])) text)
  where
    go : (x : Bool) {u v : List ℕ} → u ≡ [] → v ≡ [] → cond x u v ≡ []
    go true p q = p
    go false p q = q

-- a text is one line without a newline, or has a first line
pub data Cut (text : List ℕ) : Type 0 where
  no_line : plain text ≡ true → Cut text
  a-line : (line rest : List ℕ) → plain line ≡ true → text ≡ ended line ++ rest → Cut text

pub cut : (text : List ℕ) → Cut text
unfolding plain
cut [] = no_line refl
cut (b ∷ s) = go (eqb b 10) refl (cut s)
  where
    go : (x : Bool) → eqb b 10 ≡ x → Cut s → Cut (b ∷ s)
    go true e c = a-line [] s refl (ap (λ (y : ℕ). y ∷ s) (eqb-true b 10 e))
    go false e (no_line p) = no_line (rw e p)
    go false e (a-line line rest p q) = a-line (b ∷ line) rest (rw e p) (ap (λ (l : List ℕ). b ∷ l) q)
