-- Up to eight candidates side by side are as many one after the other. Assumes nothing.
use mathlib.Core.Path.{◌≡◌, sym, ap, ◌∙◌}
use mathlib.Core.List.{List, []}
use Prim.Native.Nat.{ℕ, zero, suc, ◌+◌, ◌*◌, ◌≤◌, ◌<◌}
use native.Mathlib.Nat.{suc-mul, add_comm}
use native.Mathlib.Omega.{arith}
use lib.ListN.{get_or}
use lib.Ieee.{Float, nan}
use Rattle.arith.specs.Lists.{list_of}
use Rattle.arith.proofs.Lists.{grown-at, grown-length, grown-read, filled_at, list_same}
use Rattle.lanes.specs.Rows.{cell, eight_of, lane_of, zero_row}
use Rattle.lanes.proofs.Rows.{eight-at}
use Rattle.rng_util.specs.Draws.{unit_of}
use Rattle.rng_util.specs.Generator.{moved_of}
use Rattle.rng_util.specs.Generator.{Nonzero}
use Rattle.rng_util.proofs.Nonzero.{moved-nonzero}
use Rattle.rng_util.proofs.Stream.{moved-add}
use Rattle.search.specs.declared.Column.{Column}
use Rattle.gp_model.specs.declared.Model.{Model}
use Rattle.search.specs.declared.Search.{Search}
use Rattle.search.specs.declared.Starts.{Starts}
use Rattle.search.specs.Eights.{Words, starts_of, column_of, points_of, kept_each_of}
use Rattle.search.specs.Search.{point_of, score_of, advance_of}

-- the word after one point more
pub word_after : (p d w : ℕ) → moved_of d (moved_of (p * d) w) ≡ moved_of (suc p * d) w
word_after p d w = sym (rw (suc-mul p d, add_comm (p * d) d) (moved-add d (p * d) w))

-- ---- a coordinate of eight points
module _ (ws at : List ℕ) (j : ℕ) (c : Column) (h : Words ws) (m : (p : ℕ) → p < 8 → get_or at p 0 ≡ moved_of j (get_or ws p 0)) (e : c ≡ column_of at) where
  pub column-values : c.values ≡ eight_of (λ p. unit_of (moved_of (suc j) (get_or ws p 0)))
  unfolding moved_of
  column-values = ap (λ (x : Column). x.values) e ∙ list_same _ _ 8 (λ p g. rw (m p g))

  pub column-next : (p : ℕ) → p < 8 → get_or c.next p 0 ≡ moved_of (suc j) (get_or ws p 0)
  unfolding moved_of
  column-next p g = ap (λ (x : Column). get_or x.next p 0) e ∙ grown-read (λ xs p. moved_of 1 (get_or at p 0)) 8 p 0 g ∙ rw (m p g)

-- ---- the points
-- row j of the points
abbrev coordinates : List ℕ → ℕ → List Float
coordinates ws j = eight_of (λ p. unit_of (moved_of (suc j) (get_or ws p 0)))

pub point-lane : (d : ℕ) (ws : List ℕ) (p : ℕ) → p < 8 → lane_of (points_of d ws) d p ≡ point_of d (get_or ws p 0)
point-lane d ws p g = list_same _ _ d one
  where
    one : (j : ℕ) → j < d → cell (points_of d ws) j p ≡ unit_of (moved_of (suc j) (get_or ws p 0))
    one j h =
        ap (λ (r : List Float). get_or r p nan) (filled_at zero_row 20 (list_of (coordinates ws) d) j [] (rw (grown-length (λ xs i. coordinates ws i) d) h) ∙ grown-read (λ xs i. coordinates ws i) d j [] h)
        ∙ grown-at (λ xs q. unit_of (moved_of (suc j) (get_or ws q 0))) 8 p g

-- ---- the search
module _ (m : Model) (s : Search) (ws : List ℕ) (ei : List Float)
    (hw : (p : ℕ) → p < 8 → get_or ws p 0 ≡ moved_of (p * m.d) s.word)
    (he : (p : ℕ) → p < 8 → get_or ei p nan ≡ score_of m (point_of m.d (get_or ws p 0))) where
  abbrev best : ℕ → Search
  best k = kept_each_of m.d ws ei k s

  pub kept-advance : (k : ℕ) → k ≤ 8 → advance_of m k s ≡ record { word = moved_of (k * m.d) s.word; best_ei = (best k).best_ei; best_x = (best k).best_x }
  unfolding advance_of kept_each_of moved_of
  kept-advance zero h = let e : 0 * m.d ≡ 0 = omega arith in rw e
  kept-advance (suc k) h =
      rw (kept-advance k (omega arith), sym (word_after k m.d s.word), he k (omega arith), hw k (omega arith))

-- a search goes on from where another one ended
pub advance-add : (m : Model) (i k : ℕ) (s : Search) → advance_of m k (advance_of m i s) ≡ advance_of m (i + k) s
unfolding advance_of
advance-add m i zero s = let e : i + 0 ≡ i = omega arith in rw e
advance-add m i (suc k) s = let e : i + suc k ≡ suc (i + k) = omega arith in rw (e, advance-add m i k s)

-- ---- at most eight candidates
pub starts-at : (d w : ℕ) (t : Starts) → t ≡ starts_of d w → (p : ℕ) → p < 8 → get_or t.words p 0 ≡ moved_of (p * d) w
starts-at d w t e p g = ap (λ (x : Starts). get_or x.words p 0) e ∙ grown-read (λ xs q. moved_of (q * d) w) 8 p 0 g

pub starts-words : (d w : ℕ) (t : Starts) → t ≡ starts_of d w → Nonzero w → Words t.words
starts-words d w t e h p g = rw (starts-at d w t e p g) (moved-nonzero (p * d) w h)

-- the first k of eight candidates, with the word after them
pub some-advance : (m : Model) (s : Search) (t : Starts) (c : List (List Float)) (ei : List Float) (b : Search) (k w : ℕ) → k ≤ 8 → w ≡ moved_of (k * m.d) s.word → t ≡ starts_of m.d s.word → c ≡ points_of m.d t.words → ei ≡ eight_of (λ p. score_of m (lane_of c m.d p)) → b ≡ kept_each_of m.d t.words ei k s
    → record { word = w; best_ei = b.best_ei; best_x = b.best_x } ≡ advance_of m k s
some-advance m s t c ei b k w h ew et ec ee eb =
    let score : (p : ℕ) → p < 8 → get_or ei p nan ≡ score_of m (point_of m.d (get_or t.words p 0)) =
    (λ p g. eight-at (λ q. score_of m (lane_of c m.d q)) ee p g ∙ ap (λ (q : List (List Float)). score_of m (lane_of q m.d p)) ec ∙ ap (score_of m) (point-lane m.d t.words p g)) in
    rw (ew, eb) (sym (kept-advance m s t.words ei (starts-at m.d s.word t et) score k h))

pub advance-nonzero : (m : Model) (k : ℕ) (s : Search) → Nonzero s.word → Nonzero (advance_of m k s).word
unfolding advance_of
advance-nonzero m zero s h = h
advance-nonzero m (suc k) s h = moved-nonzero m.d (advance_of m k s).word (advance-nonzero m k s h)
