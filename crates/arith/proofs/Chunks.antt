-- The chunks that `chunks_exact` gives. Assumes nothing.
use Rattle.std.proofs.Common.{◌≡◌, ℕ, zero, suc, ◌+◌, ◌*◌, ◌/◌, ◌<◌, List, ◌∷◌, ◌++◌, length, get_or, take, drop, sym, refl, ap, ◌∙◌, length-append, add-one, arith}
use Rattle.std.specs.Prelude.{map}
use Rattle.std.specs.List.{range_with_len}
use Rattle.std.specs.declared.slice.ChunksExact.{ChunksExact}
use Rattle.std.proofs.Math.Nat.{add-div_left, div-eq_of_lt, zero-mul}
use Rattle.std.proofs.Math.Seq.{take-append_seam, drop-append-add}
use Rattle.std.specs.Slice.Iter.{chunks_exact_rest, chunks_exact_size, chunks_exact_steps}
use Rattle.arith.specs.Chunks.{chunks_of}
use Rattle.std.proofs.lemmas.Iterator.{YieldsList}
use Rattle.std.proofs.lemmas.Iterator.Splits.{YieldsList-from_shown_while}
use Rattle.std.proofs.lemmas.List.FromFn.{length-map-range_with_len, get_or-map-range_with_len}

map_shift : {X : Type 0} (f g : ℕ → X) (a b n : ℕ) → ((k : ℕ) → f (a + k) ≡ g (b + k)) → map f (range_with_len a n) ≡ map g (range_with_len b n)
map_shift f g a b zero h = refl
map_shift f g a b (suc n) h =
    let e : f a ≡ g b = ap f (omega arith) ∙ h 0 ∙ ap g (omega arith) in
    rw (e, map_shift f g (a + 1) (b + 1) n (λ k. ap f (omega arith) ∙ h (1 + k) ∙ ap g (omega arith)))

module _ {A : Type 0} (w : ℕ) where
  chunks_step : (x ys : List A) → length x ≡ w → 0 < w → chunks_of w (x ++ ys) ≡ x ∷ chunks_of w ys
  chunks_step x ys e h =
      let f : ℕ → List A = λ k. take w (drop (k * w) (x ++ ys)) in
      let g : ℕ → List A = λ k. take w (drop (k * w) ys) in
      let n : length (x ++ ys) / w ≡ suc (length ys / w) = ap (λ (k : ℕ). k / w) (length-append x ys ∙ ap (λ (k : ℕ). k + length ys) e) ∙ add-div_left (length ys) h ∙ add-one _ in
      let first : f 0 ≡ x = rw (zero-mul w, sym e) (take-append_seam x ys) in
      let next : (k : ℕ) → f (1 + k) ≡ g (0 + k) =
      λ k. ap (take w) (ap (λ (i : ℕ). drop i (x ++ ys)) (omega arith) ∙ drop-append-add x ys (k * w) ∙ ap (λ (i : ℕ). drop i ys) (omega arith)) in
      ap (λ (k : ℕ). map f (range_with_len 0 k)) n ∙ ap (λ (c : List A). c ∷ map f (range_with_len 1 (length ys / w))) first ∙ ap (λ (cs : List (List A)). x ∷ cs) (map_shift f g 1 0 (length ys / w) next)

  pub chunk_count : (xs : List A) → length (chunks_of w xs) ≡ length xs / w
  chunk_count xs = length-map-range_with_len (λ k. take w (drop (k * w) xs)) 0 (length xs / w)

  pub chunk_at : (xs : List A) (i : ℕ) (d : List A) → i < length xs / w → get_or (chunks_of w xs) i d ≡ take w (drop (i * w) xs)
  chunk_at xs i d h = get_or-map-range_with_len (λ k. take w (drop (k * w) xs)) 0 (length xs / w) i i d h (omega arith)

  chunks_yielded : 0 < w → (s : ChunksExact A) → chunks_exact_size s ≡ w → YieldsList chunks_exact_steps (λ y. y.now) s (chunks_of w (chunks_exact_rest s))
  chunks_yielded h s e = YieldsList-from_shown_while chunks_exact_steps (λ y. y.now) (λ s. chunks_of w (chunks_exact_rest s)) (λ s. chunks_exact_size s ≡ w)
      (λ s t i r. let l : length (chunks_exact_rest s) < w = (let k = r.1.0 in omega arith) in chunk_count (chunks_exact_rest s) ∙ div-eq_of_lt l)
      (λ s x t i r. (r.0 ∙ i, ap (chunks_of w) r.1.0 ∙ chunks_step x.now (chunks_exact_rest t) (r.1.1 ∙ i) h)) s e

  -- the chain proof of `xs.chunks_exact(w)`
  pub YieldsList-from_chunks_exact : (xs : List A) {s : ChunksExact A} → 0 < w → chunks_exact_size s ≡ w → chunks_exact_rest s ≡ xs → YieldsList chunks_exact_steps (λ y. y.now) s (chunks_of w xs)
  YieldsList-from_chunks_exact xs {s} h e r = rw (sym r) (chunks_yielded h s e)
