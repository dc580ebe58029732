-- The round trip of a distribution and its six words, kind by kind: a word that is no NaN's is the word of the float read from it. Assumes nothing.
use Rattle.std.specs.Prelude.{Option, Some, None, IfSome}
use Rattle.std.specs.Option.{is_some, option_map, unwrap_or}
use mathlib.Core.Path.{◌≡◌, refl, ap, subst, ◌∙◌}
use Prim.Native.Nat.{ℕ, zero, suc, ◌^◌, ◌<◌}
use native.Mathlib.Omega.{arith}
use mathlib.Core.Bool.{Bool, true, false, ◌&&◌, ◌||◌, cond}
use mathlib.Core.Logic.{inl, inr}
use mathlib.Core.List.{[], ◌∷◌}
use lib.Dec.{T, leb, leb→le, eqb, eqb→eq}
use lib.ListN.{get_or}
use lib.IntN.{ℤ, pos, negsuc}
use lib.Ieee.{binary64, of_bits, to_bits}
use lib.Ieee.Bits.{is_true, of_bits-to_bits, to_bits-of_bits, of_bits-fits}
use lib.Ieee.Fits.{and_l, and_r}
use mir.Syntax.{w64}
use mir.Val.{SFits, to_z, of_z}
use mir.ValLaws.{to_z-of_z, of_z-to_z}
use Rattle.arith.proofs.Order.{le-real}
use Rattle.arith.proofs.Tests.{or_split}
use Rattle.distribution.specs.declared.NumberDistribution.{NumberDistribution}
use Rattle.distribution.specs.declared.Distribution.{Distribution}
use Rattle.distribution.specs.Numbers.{FloatDistribution, IntDistribution}
use Rattle.distribution.specs.Shape.{power, shape_of}
use Rattle.distribution_words.specs.Words.{flag, only, flags_ok, number_of, number_words, words_of, checked_of, read_of}
use Rattle.distribution_words.specs.RoundTrip.{Held, RoundTrip}
use Rattle.distribution.proofs.Facts.{parts, Bounded, if-some, float-rules, int-rules}
use Rattle.distribution_words.proofs.Read.{malformed, only-is}

-- ---- from a distribution

module _ {A : Type 0} (word : A → ℕ) (number : ℕ → A) where
  -- the number of a number's word is that number, for those of d
  record Back (d : NumberDistribution A) : Type 0 where
    low : number (word d.low) ≡ d.low
    high : number (word d.high) ≡ d.high
    step : IfSome d.step (λ step. number (word step) ≡ step)

  flags-back : (b : Bool) (o : Option A) → flags_ok (flag b) (flag (is_some o)) (unwrap_or (option_map word o) 0) ≡ true
  flags-back true None = refl
  flags-back true (Some step) = refl
  flags-back false None = refl
  flags-back false (Some step) = refl

  flag-back : (b : Bool) → eqb (flag b) 1 ≡ b
  flag-back true = refl
  flag-back false = refl

  step-back : (o : Option A) → IfSome o (λ step. number (word step) ≡ step)
      → cond (eqb (flag (is_some o)) 1) (Some (number (unwrap_or (option_map word o) 0))) None ≡ o
  step-back None h = refl
  step-back (Some step) h = ap Some h

  back : (d : NumberDistribution A) → Back d
      → number_of number (word d.low) (word d.high) (flag d.log_scale) (flag (is_some d.step)) (unwrap_or (option_map word d.step) 0) ≡ d
  back d b =
      let log = flag-back d.log_scale in
      let step = step-back d.step b.step in
      λ i. record { low = b.low i; high = b.high i; log_scale = log i; step = step i }

whole-fits : (z : ℤ) → Bounded (2 ^ 52) z → SFits w64 z
whole-fits (pos n) b = record { sfits = let h = b.magnitude in omega arith }
whole-fits (negsuc n) b = record { sfits = let h = b.magnitude in omega arith }

int-back : (z : ℤ) → Bounded (2 ^ 52) z → to_z w64 (of_z w64 z) ≡ z
int-back z b = to_z-of_z w64 z (whole-fits z b)

some-if : {A : Type 0} (o : Option A) (P Q : A → Type 0) → ((x : A) → P x → Q x) → IfSome o P → IfSome o Q
some-if None P Q h p = tt
some-if (Some x) P Q h p = h x p

checked-is : (d : Distribution) → T (shape_of d) → checked_of d ≡ Some d
unfolding checked_of
checked-is d t = ap (λ (b : Bool). only b (Some d)) (is_true (shape_of d) t)

reads : (d : Distribution) → Held d → T (shape_of d) → let w = words_of d in
    read_of (get_or w 0 0) (get_or w 1 0) (get_or w 2 0) (get_or w 3 0) (get_or w 4 0) (get_or w 5 0) ≡ Some d
unfolding words_of read_of
reads (Distribution.Float d) h t =
    let w = to_bits binary64 in
    rw (flags-back w (of_bits binary64) d.log_scale d.step)
    (ap (λ (x : FloatDistribution). checked_of (Distribution.Float x)) (back w (of_bits binary64) d (record {
      low = of_bits-to_bits binary64 d.low h.0;
      high = of_bits-to_bits binary64 d.high h.1;
      step = some-if d.step _ _ (of_bits-to_bits binary64) h.2;
    }))
    ∙ checked-is (Distribution.Float d) t)
reads (Distribution.Int d) h t =
    let r = int-rules d t in
    rw (flags-back (of_z w64) (to_z w64) d.log_scale d.step)
    (ap (λ (x : IntDistribution). checked_of (Distribution.Int x)) (back (of_z w64) (to_z w64) d (record {
      low = int-back d.low r.low;
      high = int-back d.high r.high;
      step = if-some d.step _ (λ x e. int-back x (r.steps x e).0);
    }))
    ∙ checked-is (Distribution.Int d) t)
reads (Distribution.Categorical d) h t = checked-is (Distribution.Categorical d) t

-- ---- from six words

cond-is : {P : Type 0} (b : Bool) (x y : Option Distribution) (d : Distribution) → (T b → x ≡ Some d → P) → (y ≡ Some d → P) → cond b x y ≡ Some d → P
cond-is true x y d f g e = f tt e
cond-is false x y d f g e = g e

read-is : (P : Distribution → Type 0) (b : Bool) (x d : Distribution) → (T b → T (shape_of x) → P x) → only b (checked_of x) ≡ Some d → P d
unfolding checked_of
read-is P b x d k e =
    let q = only-is b (checked_of x) d e in
    let p = only-is (shape_of x) (Some x) d q.1 in
    let same : x ≡ d = cc p.1 in
    subst P same (k q.0 p.0)

-- what is read is well-formed, and by its kind one of three
module _ (P : Distribution → Type 0) (kind low high log stepped step : ℕ) where
  by-kind : (let x = Distribution.Float (number_of (of_bits binary64) low high log stepped step) in T (eqb kind 1) → T (flags_ok log stepped step) → T (shape_of x) → P x)
      → (let x = Distribution.Int (number_of (to_z w64) low high log stepped step) in T (eqb kind 2) → T (flags_ok log stepped step) → T (shape_of x) → P x)
      → (let x = Distribution.Categorical (record { n_choices = low }) in T (eqb kind 3) → T (eqb high 0 && eqb log 0 && eqb stepped 0 && eqb step 0) → T (shape_of x) → P x)
      → (d : Distribution) → read_of kind low high log stepped step ≡ Some d → P d
  unfolding read_of
  by-kind f i c d e =
      cond-is (eqb kind 1) _ _ d (λ k e. read-is P (flags_ok log stepped step) _ d (f k) e)
      (λ e. cond-is (eqb kind 2) _ _ d (λ k e. read-is P (flags_ok log stepped step) _ d (i k) e)
      (λ e. cond-is (eqb kind 3) _ _ d (λ k e. read-is P (eqb high 0 && eqb log 0 && eqb stepped 0 && eqb step 0) _ d (c k) e) (λ e. absurd (malformed d e)) e) e) e

if-stepped : {A : Type 0} (b : Bool) (x : A) (P : A → Type 0) → P x → IfSome (cond b (Some x) None) P
if-stepped true x P p = p
if-stepped false x P p = tt

pub read_held : (kind low high log stepped step : ℕ) (d : Distribution) → read_of kind low high log stepped step ≡ Some d → Held d × T (shape_of d)
read_held kind low high log stepped step =
    by-kind (λ d. Held d × T (shape_of d)) kind low high log stepped step
    (λ k f t. ((of_bits-fits binary64 low, of_bits-fits binary64 high, if-stepped (eqb stepped 1) (of_bits binary64 step) _ (of_bits-fits binary64 step)), t))
    (λ k f t. (tt, t)) (λ k z t. (tt, t))

flag-word : (n : ℕ) → T (leb n 1) → flag (eqb n 1) ≡ n
flag-word zero t = refl
flag-word (suc zero) t = refl
flag-word (suc (suc n)) t = absurd (let h = leb→le (suc (suc n)) 1 t in omega arith)

module _ {A : Type 0} (word : A → ℕ) (number : ℕ → A) (kind low high log stepped step : ℕ) where
  step-words : T (eqb stepped 1 || (eqb stepped 0 && eqb step 0)) → (T (eqb stepped 1) → word (number step) ≡ step)
      → let o = cond (eqb stepped 1) (Some (number step)) None in (flag (is_some o) ≡ stepped) × (unwrap_or (option_map word o) 0 ≡ step)
  step-words t h =
      elim (or_split (eqb stepped 1) (eqb stepped 0 && eqb step 0) t) [
        | inl g ↦ rw (eqb→eq stepped 1 g) (refl, h g)
        | inr g ↦ rw (eqb→eq stepped 0 (and_l (eqb stepped 0) (eqb step 0) g), eqb→eq step 0 (and_r (eqb stepped 0) (eqb step 0) g)) (refl, refl)
      ]

  number-words : (k : ℕ) → T (eqb kind k) → T (flags_ok log stepped step) → word (number low) ≡ low → word (number high) ≡ high → (T (eqb stepped 1) → word (number step) ≡ step)
      → number_words word k (number_of number low high log stepped step) ≡ kind ∷ low ∷ high ∷ log ∷ stepped ∷ step ∷ []
  number-words k e t l h s =
      let p = step-words (search parts) s in
      rw (eqb→eq kind k e, l, h, flag-word log (search parts), p.0, p.1)

words : (kind low high log stepped step : ℕ) (d : Distribution) → low < 2 ^ 64 → high < 2 ^ 64 → step < 2 ^ 64
    → read_of kind low high log stepped step ≡ Some d → Held d × T (shape_of d) × (words_of d ≡ kind ∷ low ∷ high ∷ log ∷ stepped ∷ step ∷ [])
unfolding shape_of words_of
words kind low high log stepped step d l h s e =
    let r = read_held kind low high log stepped step d e in (
      r.0,
      r.1,
      by-kind (λ d. words_of d ≡ kind ∷ low ∷ high ∷ log ∷ stepped ∷ step ∷ []) kind low high log stepped step float int choice d e,
    )
  where
    float : T (eqb kind 1) → T (flags_ok log stepped step) → (let x = Distribution.Float (number_of (of_bits binary64) low high log stepped step) in T (shape_of x) → words_of x ≡ kind ∷ low ∷ high ∷ log ∷ stepped ∷ step ∷ [])
    float k f t =
        let r = float-rules (number_of (of_bits binary64) low high log stepped step) t in
        let o = le-real (of_bits binary64 low) (of_bits binary64 high) r.order in
        number-words (to_bits binary64) (of_bits binary64) kind low high log stepped step 1 k f (to_bits-of_bits binary64 low l o.0) (to_bits-of_bits binary64 high h o.1)
        (λ g. to_bits-of_bits binary64 step s (le-real (power (negsuc 51)) (of_bits binary64 step) (r.steps (of_bits binary64 step) (ap (λ (b : Bool). cond b (Some (of_bits binary64 step)) None) (is_true (eqb stepped 1) g))).least).1)

    int : T (eqb kind 2) → T (flags_ok log stepped step) → (let x = Distribution.Int (number_of (to_z w64) low high log stepped step) in T (shape_of x) → words_of x ≡ kind ∷ low ∷ high ∷ log ∷ stepped ∷ step ∷ [])
    int k f t =
        number-words (of_z w64) (to_z w64) kind low high log stepped step 2 k f (of_z-to_z w64 low (record { fits = l })) (of_z-to_z w64 high (record { fits = h })) (λ g. of_z-to_z w64 step (record { fits = s }))

    choice : T (eqb kind 3) → T (eqb high 0 && eqb log 0 && eqb stepped 0 && eqb step 0) → (let x = Distribution.Categorical (record { n_choices = low }) in T (shape_of x) → words_of x ≡ kind ∷ low ∷ high ∷ log ∷ stepped ∷ step ∷ [])
    choice k z t = rw (eqb→eq kind 3 k, eqb→eq high 0 (search parts), eqb→eq log 0 (search parts), eqb→eq stepped 0 (search parts), eqb→eq step 0 (search parts))

pub round_trip : RoundTrip
round_trip = record { reads = reads; words = words }
