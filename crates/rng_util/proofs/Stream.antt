-- The words of a run by their place: moves add up, and the stream's element i is the word moved i + 1 times. By induction on the count.
use mathlib.Core.Path.{◌≡◌, refl, sym, ap, ◌∙◌}
use mathlib.Core.List.{List, ◌∷◌, ◌++◌}
use Prim.Native.Nat.{ℕ, zero, suc, ◌+◌, ◌<◌}
use native.Mathlib.Nat.{zero-add, suc-add, le_of_suc-le-suc, not-suc-le-zero}
use lib.ListN.{length, get_or}
use Rattle.rng_util.specs.Generator.{next_of, moved_of, stream_of}

pub moved-add : (m n w : ℕ) → moved_of (m + n) w ≡ moved_of m (moved_of n w)
unfolding moved_of
moved-add zero n w = rw zero-add
moved-add (suc m) n w = rw suc-add (ap next_of (moved-add m n w))

-- the first move may be taken first
pub moved-suc : (n w : ℕ) → moved_of (suc n) w ≡ moved_of n (next_of w)
unfolding moved_of
moved-suc zero w = refl
moved-suc (suc n) w = ap next_of (moved-suc n w)

pub stream-length : (n w : ℕ) → length (stream_of n w) ≡ n
unfolding stream_of
stream-length zero w = refl
stream-length (suc n) w = ap suc (stream-length n (next_of w))

pub stream_at : (n w i : ℕ) → i < n → get_or (stream_of n w) i 0 ≡ moved_of (suc i) w
unfolding stream_of moved_of
stream_at zero w i h = absurd (not-suc-le-zero h)
stream_at (suc n) w zero h = refl
stream_at (suc n) w (suc i) h = stream_at n (next_of w) i (le_of_suc-le-suc h) ∙ sym (moved-suc (suc i) w)

pub stream-append : (m n w : ℕ) → stream_of (m + n) w ≡ stream_of m w ++ stream_of n (moved_of m w)
unfolding stream_of moved_of
stream-append zero n w = rw zero-add
stream-append (suc m) n w =
    rw (suc-add, moved-suc m w) (ap (λ (l : List ℕ). next_of w ∷ l) (stream-append m n (next_of w)))
